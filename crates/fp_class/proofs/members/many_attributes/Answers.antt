use Rattle.std.proofs.Common.{sym, ◌∙◌, subst, arith}
use Rattle.std.proofs.lemmas.Result.{err_from_is_err_and}
use Rattle.fp_model.specs.Reading.{Fails}
use Rattle.fp_model.proofs.Many.{many_at-next, many_at-end, Fails-many_at}
use Rattle.fp_attr.specs.Attributes.{attribute_at}
use Rattle.fp_class.proofs.members.many_attributes.Goals as goal

pub loop-left-preserved : goal.loop-left-preserved
loop-left-preserved c =
    rw c.in_ok-push.ensures.items
    (sym (many_at-next (attribute_at c.args.pool.now.entries c.args.owner c.args.bytes.now) c.args.count c.loop-left._left c.loop-left.next c.loop-left.attributes.items (c.in_ok-attribute.attribute, c.in_ok-attribute.end) (omega arith) c.in_ok-attribute.ensures.exact)
    ∙ c.loop-left.invariant)

pub returns : goal.returns
returns c =
    rw c.from_vec.ensures
    (sym c.loop-left.invariant
    ∙ many_at-end (attribute_at c.args.pool.now.entries c.args.owner c.args.bytes.now) c.args.count c.loop-left._left c.loop-left.next c.loop-left.attributes.items (omega arith))

pub returns-in_err-attribute : goal.returns-in_err-attribute
returns-in_err-attribute c =
    let p = err_from_is_err_and c.from_residual.result c.from_residual.ensures.1 in
    rw (p.1, p.2)
    (subst (λ read. Fails c.in_err-attribute.field-0.0 read) c.loop-left.invariant
    (Fails-many_at c.in_err-attribute.field-0.0 (attribute_at c.args.pool.now.entries c.args.owner c.args.bytes.now) c.args.count c.loop-left._left c.loop-left.next c.loop-left.attributes.items (omega arith) c.in_err-attribute.ensures.exact))
