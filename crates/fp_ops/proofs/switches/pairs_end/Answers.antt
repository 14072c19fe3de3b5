use Rattle.std.proofs.Common.{sym, ◌∙◌, subst, arith}
use Rattle.std.proofs.lemmas.Result.{err_from_is_err_and}
use Rattle.fp_model.specs.Reading.{Fails}
use Rattle.fp_ops.proofs.Loops.{pairs_end-next, pairs_end-end, Fails-pairs_end}
use Rattle.fp_ops.proofs.switches.pairs_end.Goals as goal

pub loop-left-preserved : goal.loop-left-preserved
loop-left-preserved c =
    sym (pairs_end-next c.args.op_at c.args.count c.loop-left._left c.loop-left.least c.args.bytes.now c.loop-left.next (c.in_ok-higher.higher, c.in_ok-higher.end) (omega arith) c.in_ok-higher.ensures)
    ∙ c.loop-left.invariant

pub returns : goal.returns
returns c =
    sym c.loop-left.invariant
    ∙ pairs_end-end c.args.op_at c.args.count c.loop-left._left c.loop-left.least c.args.bytes.now c.loop-left.next (omega arith)

pub returns-in_err-higher : goal.returns-in_err-higher
returns-in_err-higher c =
    let p = err_from_is_err_and c.from_residual.result c.from_residual.ensures.1 in
    rw (p.1, p.2)
    (subst (λ read. Fails c.in_err-higher.field-0.0 read) c.loop-left.invariant
    (Fails-pairs_end c.in_err-higher.field-0.0 c.args.op_at c.args.count c.loop-left._left c.loop-left.least c.args.bytes.now c.loop-left.next (omega arith) c.in_err-higher.ensures))
