use Rattle.std.proofs.Common.{sym, ◌∙◌, subst, arith}
use Rattle.std.proofs.lemmas.Result.{err_from_is_err_and}
use Rattle.fp_attr.specs.Attributes.{attribute_skipped}
use Rattle.fp_model.specs.Reading.{Fails}
use Rattle.fp_class.proofs.Walks.{many_skipped-next, many_skipped-end, Fails-many_skipped}
use Rattle.fp_class.proofs.layout.skip_many_attributes.Goals as goal

pub loop-left-preserved : goal.loop-left-preserved
loop-left-preserved c =
    sym (many_skipped-next (attribute_skipped c.args.bytes.now) c.args.count c.loop-left._left c.loop-left.next c.in_ok-end.end (omega arith) c.in_ok-end.ensures) ∙ c.loop-left.invariant

pub returns : goal.returns
returns c =
    sym c.loop-left.invariant ∙ many_skipped-end (attribute_skipped c.args.bytes.now) c.args.count c.loop-left._left c.loop-left.next (omega arith)

pub returns-in_err-end : goal.returns-in_err-end
returns-in_err-end c =
    let p = err_from_is_err_and c.from_residual.result c.from_residual.ensures.1 in
    rw (p.1, p.2)
    (subst (λ read. Fails c.in_err-end.field-0.0 read) c.loop-left.invariant
    (Fails-many_skipped c.in_err-end.field-0.0 (attribute_skipped c.args.bytes.now) c.args.count c.loop-left._left c.loop-left.next (omega arith) c.in_err-end.ensures))
