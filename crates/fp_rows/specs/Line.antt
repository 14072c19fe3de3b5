-- The lines of the file of cases.
use Rattle.std.specs.Prelude.{ℕ, Bool, false, not, ◌==◌, List, [], ◌∷◌}

-- a line is a case unless it is empty or begins with `#`
abbrev pub is_case : List ℕ → Bool
is_case [] = false
is_case (first ∷ _) = not (first == 35)
