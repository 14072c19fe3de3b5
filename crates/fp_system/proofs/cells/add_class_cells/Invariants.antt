use Rattle.std.proofs.Common.{◌≡◌, ◌++◌, take}
use Rattle.fp_system.specs.Java.{class_cells, lacks}
use Rattle.fp_system.proofs.cells.add_class_cells.Given as goal

abbrev pub invariant-loop-id : goal.invariant-loop-id
invariant-loop-id l = l.cells ≡ l.fn.cells ++ class_cells l.property.kind l.property.bits (lacks l.property.without) 0 (take l.id l.set.classes)
