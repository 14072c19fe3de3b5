use Rattle.std.proofs.Common.{sym, ◌∙◌, subst, arith}
use Rattle.std.proofs.lemmas.Result.{err_from_is_err_and}
use Rattle.fp_model.specs.Reading.{Fails}
use Rattle.fp_attr.specs.Codes.{row_at}
use Rattle.fp_model.proofs.Many.{many_at-next, many_at-end, Fails-many_at}
use Rattle.fp_attr.proofs.cut.many_rows.Goals as goal

pub loop-left-preserved : goal.loop-left-preserved
loop-left-preserved c =
    rw c.in_ok-push.ensures.items
    (sym (many_at-next (row_at c.args.bytes.now) c.args.count c.loop-left._left c.loop-left.next c.loop-left.rows.items (c.in_ok-one.one, c.in_ok-one.end) (omega arith) c.in_ok-one.ensures)
    ∙ c.loop-left.invariant)

pub returns : goal.returns
returns c =
    rw c.from_vec.ensures
    (sym c.loop-left.invariant
    ∙ many_at-end (row_at c.args.bytes.now) c.args.count c.loop-left._left c.loop-left.next c.loop-left.rows.items (omega arith))

pub returns-in_err-one : goal.returns-in_err-one
returns-in_err-one c =
    let p = err_from_is_err_and c.from_residual.result c.from_residual.ensures.1 in
    rw (p.1, p.2)
    (subst (λ read. Fails c.in_err-one.field-0.0 read) c.loop-left.invariant
    (Fails-many_at c.in_err-one.field-0.0 (row_at c.args.bytes.now) c.args.count c.loop-left._left c.loop-left.next c.loop-left.rows.items (omega arith) c.in_err-one.ensures))
