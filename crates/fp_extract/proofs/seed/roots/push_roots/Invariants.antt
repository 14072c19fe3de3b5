use Rattle.std.proofs.Common.{◌≡◌, ◌++◌, take}
use Rattle.std.specs.List.{flat_map}
use Rattle.fp_facts.specs.Seeds.{root_types}
use Rattle.fp_extract.specs.SeedGraph.{type_edges}
use Rattle.fp_extract.specs.declared.seed.node.Node.TheVariants.{Roots}
use Rattle.fp_extract.proofs.seed.roots.push_roots.Given as goal

abbrev pub invariant-loop-root : goal.invariant-loop-root
invariant-loop-root l = l.edges.items ≡ l.fn.edges.items ++ type_edges Roots (flat_map (root_types l.set.classes) (take l.root-index l.roots))
