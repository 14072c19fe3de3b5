-- The cells of the call graph of a set's facts, for tests.
use Rattle.std.specs.Prelude.{ℕ, List, [], ◌∷◌, map}
use Rattle.fp_cells.specs.declared.kind.KindId.TheVariants as kind
use Rattle.fp_cells.specs.declared.kind.Entity.TheVariants as entity
use Rattle.fp_cells.specs.Cells.{Cell}
use Rattle.fp_facts.specs.declared.facts.Facts.{Facts}
use Rattle.fp_facts.specs.declared.facts.MethodFacts.{MethodFacts}
use Rattle.fp_rta.specs.CallGraph.{callees_cell}

-- that of a method, and those of its calls
abbrev pub reach_cell : (method : ℕ) → Cell
reach_cell method = record { kind = kind.Reach; entity = entity.Method method; bits = 1 }

abbrev pub method_cells : Facts → MethodFacts → List Cell
method_cells facts m = reach_cell m.method ∷ map (callees_cell facts m.method) m.sites
