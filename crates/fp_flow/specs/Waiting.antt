-- Nodes that wait for a visit.
use Rattle.std.specs.Prelude.{◌==◌, ℕ, Bool, List}
use Rattle.std.specs.List.{list_any}

-- whether the node is on the list
abbrev pub is_listed : List ℕ → ℕ → Bool
is_listed nodes n = list_any (λ m. m == n) nodes
