use Rattle.std.proofs.Common.{sym, ◌∙◌, subst, arith}
use Rattle.std.proofs.lemmas.Result.{err_from_is_err_and}
use Rattle.std.specs.Int.{w16}
use Rattle.fp_model.specs.Reading.{Fails, number_at}
use Rattle.fp_model.proofs.Many.{many_at-next, many_at-end, Fails-many_at}
use Rattle.fp_model.proofs.reading.many_u16s_at.Goals as goal

pub loop-left-preserved : goal.loop-left-preserved
loop-left-preserved c =
    rw c.in_ok-push.ensures.items
    (sym (many_at-next (number_at w16 c.args.bytes.now) c.args.count c.loop-left._left c.loop-left.next c.loop-left.numbers.items (c.in_ok-number.number, c.in_ok-number.end) (omega arith) c.in_ok-number.ensures)
    ∙ c.loop-left.invariant)

pub returns : goal.returns
returns c =
    rw c.from_vec.ensures
    (sym c.loop-left.invariant
    ∙ many_at-end (number_at w16 c.args.bytes.now) c.args.count c.loop-left._left c.loop-left.next c.loop-left.numbers.items (omega arith))

pub returns-in_err-number : goal.returns-in_err-number
returns-in_err-number c =
    let p = err_from_is_err_and c.from_residual.result c.from_residual.ensures.1 in
    rw (p.1, p.2)
    (subst (λ read. Fails c.in_err-number.field-0.0 read) c.loop-left.invariant
    (Fails-many_at c.in_err-number.field-0.0 (number_at w16 c.args.bytes.now) c.args.count c.loop-left._left c.loop-left.next c.loop-left.numbers.items (omega arith) c.in_err-number.ensures))
