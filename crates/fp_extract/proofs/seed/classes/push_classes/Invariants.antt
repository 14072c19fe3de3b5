use Rattle.std.proofs.Common.{◌≡◌, ◌++◌, drop}
use Rattle.std.specs.List.{flat_map}
use Rattle.fp_extract.specs.SeedGraph.{class_edges}
use Rattle.fp_extract.proofs.seed.classes.push_classes.Given as goal

abbrev pub invariant-loop-id : goal.invariant-loop-id
invariant-loop-id l = l.edges.items ++ flat_map class_edges (drop l.id l.set.classes) ≡ l.fn.edges.items ++ flat_map class_edges l.set.classes
