use Rattle.std.proofs.Common.{◌≡◌, ◌++◌, take}
use Rattle.fp_model.specs.ClassSet.{methods_of}
use Rattle.fp_system.specs.Java.{method_cells}
use Rattle.fp_system.specs.Kinds.{method_bits, method_has}
use Rattle.fp_system.proofs.cells.add_method_cells.Given as goal

abbrev pub invariant-loop-id : goal.invariant-loop-id
invariant-loop-id l = l.cells ≡ l.fn.cells ++ method_cells l.kind (method_bits l.kind) (method_has l.kind) 0 (take l.id (methods_of l.set.classes))
