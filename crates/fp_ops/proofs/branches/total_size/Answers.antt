use Rattle.std.proofs.Common.{arith}
use Rattle.fp_ops.proofs.Walking.{left_size, none_left}
use Rattle.fp_ops.proofs.branches.total_size.Goals as goal

pub size-total-requires : goal.size-total-requires
size-total-requires c = omega (arith, left_size c.args.code.now c.loop-ins.ins-index c.ins-item.result c.loop-ins-test.true c.ins-item.is)

pub overflow_add-total : goal.overflow_add-total
overflow_add-total c = omega (arith, left_size c.args.code.now c.loop-ins.ins-index c.ins-item.result c.loop-ins-test.true c.ins-item.is)

pub loop-ins-preserved : goal.loop-ins-preserved
loop-ins-preserved c = omega (arith, left_size c.args.code.now c.loop-ins.ins-index c.ins-item.result c.loop-ins-test.true c.ins-item.is)

pub returns : goal.returns
returns c = omega (arith, none_left c.args.code.now c.loop-ins.ins-index c.loop-ins-test.false)
