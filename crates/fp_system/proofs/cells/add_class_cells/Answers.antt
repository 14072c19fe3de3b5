use Rattle.std.proofs.Common.{arith}
use Rattle.fp_system.specs.Java.{lacks}
use Rattle.fp_system.proofs.JavaCellLemmas.{class_absent, class_step, classes_done, classes_order}
use Rattle.fp_system.proofs.cells.add_class_cells.Goals as goal

pub add_class_cell-requires : goal.add_class_cell-requires
add_class_cell-requires c = class_absent c.args.property.kind c.args.property.bits (lacks c.args.property.without) c.args.set.now.classes c.loop-id.id c.class-class.result.now c.class-class.ensures.class c.args.cells.now c.loop-id.cells c.loop-id.invariant c.requires

pub loop-id-preserved : goal.loop-id-preserved
loop-id-preserved c = class_step c.args.property.kind c.args.property.bits (lacks c.args.property.without) c.args.set.now.classes c.loop-id.id c.class-class.result.now c.class-class.ensures.class c.args.cells.now c.loop-id.cells c.loop-id.invariant c.add_class_cell.new.cells c.in_ok-add_class_cell.ensures

pub returns-clause-added : goal.returns-clause-added
returns-clause-added c = classes_done c.args.property.kind c.args.property.bits (lacks c.args.property.without) c.args.set.now.classes c.loop-id.id c.args.cells.now c.loop-id.cells (omega arith) c.loop-id.invariant

pub returns-clause-order : goal.returns-clause-order
returns-clause-order c =
    let done = classes_done c.args.property.kind c.args.property.bits (lacks c.args.property.without) c.args.set.now.classes c.loop-id.id c.args.cells.now c.loop-id.cells (omega arith) c.loop-id.invariant in
    classes_order c.args.property.kind c.args.property.bits (lacks c.args.property.without) c.args.set.now.classes c.args.cells.now c.loop-id.cells done c.requires
