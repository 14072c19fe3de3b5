-- Edges in the order of the nodes that they start at.
use Rattle.std.specs.Prelude.{◌≤◌, List, [], ◌∷◌, All}
use Rattle.fp_facts.specs.Dataflow.{Edge}

abbrev pub IsAscending : List Edge → Type 0
IsAscending [] = Unit {0}
IsAscending (e ∷ edges) = All (λ f. e.0 ≤ f.0) edges × IsAscending edges
