use Rattle.std.proofs.Common.{◌≡◌, ◌++◌, take}
use Rattle.std.specs.List.{flat_map}
use Rattle.fp_tests.specs.Graphs.{method_cells}
use Rattle.fp_tests.proofs.tests.rta.add_all_cells.Given as goal

abbrev pub invariant-loop-method : goal.invariant-loop-method
invariant-loop-method l = l.cells ≡ l.initial.cells ++ flat_map (method_cells l.facts) (take l.method-index l.method-items)
