use Rattle.std.proofs.Common.{sym, ◌∙◌, subst, arith}
use Rattle.std.proofs.lemmas.Result.{err_from_is_err_and}
use Rattle.fp_model.specs.Reading.{Fails}
use Rattle.fp_model.specs.Decoding.{ins_at}
use Rattle.fp_ops.proofs.Loops.{all_at-next, all_at-spent, all_at-end, Fails-all_at}
use Rattle.fp_ops.proofs.reading.instructions.Goals as goal

pub loop-left-preserved : goal.loop-left-preserved
loop-left-preserved c =
    rw c.in_ok-push.ensures.items
    (sym (all_at-next (ins_at c.args.entries.now c.args.max_locals c.args.start c.args.bytes.now) c.args.bytes.now c.args.most c.loop-left._left c.loop-left.next c.loop-left.code.items (c.in_ok-ins.ins, c.in_ok-ins.end) (omega arith) (omega arith) c.in_ok-ins.ensures)
    ∙ c.loop-left.invariant)

pub returns-then-next-bytes : goal.returns-then-next-bytes
returns-then-next-bytes c =
    rw c.from_vec.ensures
    (sym c.loop-left.invariant
    ∙ all_at-end (ins_at c.args.entries.now c.args.max_locals c.args.start c.args.bytes.now) c.args.bytes.now c.args.most c.loop-left._left c.loop-left.next c.loop-left.code.items (omega arith) (omega arith))

pub returns : goal.returns
returns c =
    rw c.from_vec-2.ensures
    (sym c.loop-left.invariant
    ∙ all_at-spent (ins_at c.args.entries.now c.args.max_locals c.args.start c.args.bytes.now) c.args.bytes.now c.args.most c.loop-left._left c.loop-left.next c.loop-left.code.items (omega arith))

pub returns-in_err-ins : goal.returns-in_err-ins
returns-in_err-ins c =
    let p = err_from_is_err_and c.from_residual.result c.from_residual.ensures.1 in
    rw (p.1, p.2)
    (subst (λ read. Fails c.in_err-ins.field-0.0 read) c.loop-left.invariant
    (Fails-all_at c.in_err-ins.field-0.0 (ins_at c.args.entries.now c.args.max_locals c.args.start c.args.bytes.now) c.args.bytes.now c.args.most c.loop-left._left c.loop-left.next c.loop-left.code.items (omega arith) (omega arith) c.in_err-ins.ensures))
