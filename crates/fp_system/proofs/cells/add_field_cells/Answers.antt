use Rattle.std.proofs.Common.{◌≡◌, ◌++◌, length, arith}
use Rattle.fp_model.specs.ClassSet.{fields_of}
use Rattle.fp_system.specs.Java.{field_cells}
use Rattle.fp_system.proofs.JavaCellLemmas.{field_absent, field_added, fields_order}
use Rattle.fp_system.proofs.cells.add_field_cells.Goals as goal

pub add_cell-requires : goal.add_cell-requires
add_cell-requires c = field_absent c.args.kind c.args.bits c.loop-id.id c.args.cells.now c.loop-id.cells c.loop-id.invariant c.requires

pub loop-id-preserved : goal.loop-id-preserved
loop-id-preserved c = field_added c.args.kind c.args.bits c.loop-id.id c.args.cells.now c.loop-id.cells c.add_cell.new.cells c.loop-id.invariant c.in_ok-add_cell.ensures

pub returns-clause-added : goal.returns-clause-added
returns-clause-added c =
    let end : c.loop-id.id ≡ length (fields_of c.args.set.now.classes) = omega arith in
    rw end at c.loop-id.invariant

pub returns-clause-order : goal.returns-clause-order
returns-clause-order c =
    let end : c.loop-id.id ≡ length (fields_of c.args.set.now.classes) = omega arith in
    let done : c.loop-id.cells ≡ c.args.cells.now ++ field_cells c.args.kind c.args.bits c.args.set.now.classes = rw end at c.loop-id.invariant in
    fields_order c.args.kind c.args.bits c.args.set.now.classes c.args.cells.now c.loop-id.cells done c.requires
