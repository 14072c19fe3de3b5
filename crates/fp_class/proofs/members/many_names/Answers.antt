use Rattle.std.proofs.Common.{sym, ◌∙◌, subst, arith}
use Rattle.std.proofs.lemmas.Result.{err_from_is_err_and}
use Rattle.fp_model.specs.Reading.{Fails}
use Rattle.fp_model.proofs.Many.{many_at-next, many_at-end, Fails-many_at}
use Rattle.fp_class.specs.Members.{name_at}
use Rattle.fp_class.proofs.members.many_names.Goals as goal

pub loop-left-preserved : goal.loop-left-preserved
loop-left-preserved c =
    rw c.in_ok-push.ensures.items
    (sym (many_at-next (name_at c.args.entries.now c.args.bytes.now) c.args.count c.loop-left._left c.loop-left.next c.loop-left.names.items (c.in_ok-name.name, c.in_ok-name.end) (omega arith) c.in_ok-name.ensures)
    ∙ c.loop-left.invariant)

pub returns : goal.returns
returns c =
    rw c.from_vec.ensures
    (sym c.loop-left.invariant
    ∙ many_at-end (name_at c.args.entries.now c.args.bytes.now) c.args.count c.loop-left._left c.loop-left.next c.loop-left.names.items (omega arith))

pub returns-in_err-name : goal.returns-in_err-name
returns-in_err-name c =
    let p = err_from_is_err_and c.from_residual.result c.from_residual.ensures.1 in
    rw (p.1, p.2)
    (subst (λ read. Fails c.in_err-name.field-0.0 read) c.loop-left.invariant
    (Fails-many_at c.in_err-name.field-0.0 (name_at c.args.entries.now c.args.bytes.now) c.args.count c.loop-left._left c.loop-left.next c.loop-left.names.items (omega arith) c.in_err-name.ensures))
