use Rattle.std.proofs.Common.{◌≡◌, Bool, ◌||◌, true, false, refl, [], ◌∷◌, sym, ◌∙◌, ap, subst, arith}
use Rattle.std.specs.List.{list_any}
use Rattle.std.proofs.lemmas.List.Folds.{list_any-append}
use Rattle.std.proofs.lemmas.Result.{err_from_is_err_and}
use Rattle.fp_model.specs.Reading.{Fails}
use Rattle.fp_class.specs.ClassFile.{are_boots, class_attribute_at}
use Rattle.fp_class.proofs.Walks.{many_after-next, many_after-end, Fails-many_after}
use Rattle.fp_attr.specs.Attributes.{attribute_at}
use Rattle.fp_class.proofs.file.many_attributes.Goals as goal

or_false : (b : Bool) → (b || false) ≡ b
or_false true = refl
or_false false = refl

pub loop-left-preserved : goal.loop-left-preserved
loop-left-preserved c =
    let entries = c.args.pool.now.entries in
    let bytes = c.args.bytes.now in
    let before = c.loop-left.attributes.items in
    let its = c.owner.ensures before c.loop-left.invariant.boots in
    let read = ap (λ o. attribute_at entries o bytes c.loop-left.next) (sym its) ∙ c.in_ok-attribute.ensures.exact in
    rw c.in_ok-push.ensures.items (record {
      rest = sym (many_after-next (class_attribute_at entries bytes) c.args.count c.loop-left._left c.loop-left.next before (c.in_ok-attribute.attribute, c.in_ok-attribute.end) (omega arith) read) ∙ c.loop-left.invariant.rest;
      boots = c.has_boots_with-has_boots.ensures
          ∙ ap (λ b. b || are_boots c.in_ok-attribute.attribute) c.loop-left.invariant.boots
          ∙ sym (list_any-append are_boots before (c.in_ok-attribute.attribute ∷ []) ∙ ap (λ b. list_any are_boots before || b) (or_false (are_boots c.in_ok-attribute.attribute)));
    })

pub returns : goal.returns
returns c =
    rw c.from_vec.ensures
    (sym c.loop-left.invariant.rest
    ∙ many_after-end (class_attribute_at c.args.pool.now.entries c.args.bytes.now) c.args.count c.loop-left._left c.loop-left.next c.loop-left.attributes.items (omega arith))

pub returns-in_err-attribute : goal.returns-in_err-attribute
returns-in_err-attribute c =
    let before = c.loop-left.attributes.items in
    let its = c.owner.ensures before c.loop-left.invariant.boots in
    let entries = c.args.pool.now.entries in
    let failed = subst (λ o. Fails c.in_err-attribute.field-0.0 (attribute_at entries o c.args.bytes.now c.loop-left.next)) its c.in_err-attribute.ensures.exact in
    let p = err_from_is_err_and c.from_residual.result c.from_residual.ensures.1 in
    rw (p.1, p.2)
    (subst (λ read. Fails c.in_err-attribute.field-0.0 read) c.loop-left.invariant.rest
    (Fails-many_after c.in_err-attribute.field-0.0 (class_attribute_at entries c.args.bytes.now) c.args.count c.loop-left._left c.loop-left.next before (omega arith) failed))
