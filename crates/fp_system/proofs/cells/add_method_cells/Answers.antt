use Rattle.std.proofs.Common.{arith}
use Rattle.fp_model.specs.ClassSet.{methods_of}
use Rattle.fp_system.specs.Kinds.{method_bits, method_has}
use Rattle.fp_system.proofs.MethodCellLemmas.{method_absent, method_step, methods_done, methods_order}
use Rattle.fp_system.proofs.cells.add_method_cells.Goals as goal

pub add_method_cell-requires : goal.add_method_cell-requires
add_method_cell-requires c = method_absent c.args.kind (method_bits c.args.kind) (method_has c.args.kind) (methods_of c.args.set.now.classes) c.loop-id.id c.args.cells.now c.loop-id.cells (omega arith) c.loop-id.invariant c.requires

pub loop-id-preserved : goal.loop-id-preserved
loop-id-preserved c = method_step c.args.kind (method_bits c.args.kind) (method_has c.args.kind) (methods_of c.args.set.now.classes) c.loop-id.id c.method-method.result.now c.args.cells.now c.loop-id.cells c.add_method_cell.new.cells c.method-method.ensures c.loop-id.invariant c.in_ok-add_method_cell.ensures

pub returns-clause-added : goal.returns-clause-added
returns-clause-added c = methods_done c.args.kind (method_bits c.args.kind) (method_has c.args.kind) (methods_of c.args.set.now.classes) c.loop-id.id c.args.cells.now c.loop-id.cells (omega arith) c.loop-id.invariant

pub returns-clause-order : goal.returns-clause-order
returns-clause-order c =
    let done = methods_done c.args.kind (method_bits c.args.kind) (method_has c.args.kind) (methods_of c.args.set.now.classes) c.loop-id.id c.args.cells.now c.loop-id.cells (omega arith) c.loop-id.invariant in
    methods_order c.args.kind (method_bits c.args.kind) (method_has c.args.kind) (methods_of c.args.set.now.classes) c.args.cells.now c.loop-id.cells done c.requires
