use Rattle.std.proofs.Common.{◌≡◌, ◌++◌, take}
use Rattle.fp_facts.specs.Seeds.{classes_of_kinds}
use Rattle.fp_extract.specs.SeedGraph.{type_edges}
use Rattle.fp_extract.proofs.seed.types.push_types.Given as goal

abbrev pub invariant-loop-kind : goal.invariant-loop-kind
invariant-loop-kind l = l.edges.items ≡ l.fn.edges.items ++ type_edges l.from (classes_of_kinds (take l.kind-index l.kinds))
