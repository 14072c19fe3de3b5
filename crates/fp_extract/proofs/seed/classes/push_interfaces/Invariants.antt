use Rattle.std.proofs.Common.{◌≡◌, ◌++◌, take}
use Rattle.fp_extract.specs.SeedGraph.{interface_edges}
use Rattle.fp_extract.proofs.seed.classes.push_interfaces.Given as goal

abbrev pub invariant-loop-interface : goal.invariant-loop-interface
invariant-loop-interface l = l.edges.items ≡ l.fn.edges.items ++ interface_edges l.name (take l.interface-index l.interfaces)
