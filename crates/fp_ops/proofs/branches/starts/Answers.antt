use Rattle.std.proofs.Common.{◌<◌, length, arith}
use Rattle.fp_ops.proofs.Walking.{left_size, some_size, marks_next, marks_end}
use Rattle.fp_ops.proofs.branches.starts.Goals as goal

pub index_mut-requires : goal.index_mut-requires
index_mut-requires c = omega (arith, left_size c.args.code.now c.loop-ins.ins-index c.ins-item.result c.loop-ins-test.true c.ins-item.is, some_size c.ins-item.result)

pub size-requires : goal.size-requires
size-requires c = omega (arith, left_size c.args.code.now c.loop-ins.ins-index c.ins-item.result c.loop-ins-test.true c.ins-item.is)

pub overflow_add-pc : goal.overflow_add-pc
overflow_add-pc c = omega (arith, left_size c.args.code.now c.loop-ins.ins-index c.ins-item.result c.loop-ins-test.true c.ins-item.is)

pub loop-ins-preserved : goal.loop-ins-preserved
loop-ins-preserved c =
    let inside : c.loop-ins.pc < length c.loop-ins.marks.items = omega (arith, left_size c.args.code.now c.loop-ins.ins-index c.ins-item.result c.loop-ins-test.true c.ins-item.is, some_size c.ins-item.result) in
    record {
      size = omega arith;
      at = omega (arith, left_size c.args.code.now c.loop-ins.ins-index c.ins-item.result c.loop-ins-test.true c.ins-item.is);
      marks = λ place. rw c.size.ensures (marks_next c.loop-ins.marks.items c.args.code.now c.loop-ins.pc c.loop-ins.ins-index c.ins-item.result place _ c.loop-ins-test.true c.ins-item.is inside (c.loop-ins.invariant.marks place));
    }

pub returns : goal.returns
returns c = λ place. marks_end c.loop-ins.marks.items c.args.code.now c.loop-ins.pc c.loop-ins.ins-index place _ c.loop-ins-test.false (c.loop-ins.invariant.marks place)
