use Rattle.std.proofs.Common.{◌≡◌, Ok, [], ◌∷◌, ◌++◌, sym, ◌∙◌, subst, arith}
use Rattle.std.proofs.lemmas.Result.{err_from_is_err_and}
use Rattle.fp_model.specs.Reading.{Fails}
use Rattle.std.specs.BTreeSet.{contains}
use Rattle.fp_class.specs.Keys.{has_key, key_cmp}
use Rattle.fp_class.specs.Members.{field_at}
use Rattle.fp_class.proofs.MemberTexts.{field_texts, all_texts}
use Rattle.fp_class.proofs.Walks.{many_after-next, many_after-end, Fails-many_after}
use Rattle.fp_class.proofs.members.many_fields.Goals as goal

pub field-requires-clause-before : goal.field-requires-clause-before
field-requires-clause-before c = rw c.as_slice.ensures.value c.loop-left.invariant.texts

pub field-requires-clause-seen : goal.field-requires-clause-seen
field-requires-clause-seen c = λ key. rw c.as_slice.ensures.value (c.loop-left.invariant.seen key)

pub loop-left-preserved : goal.loop-left-preserved
loop-left-preserved c =
    let entries = c.args.pool.now.entries in
    let bytes = c.args.bytes.now in
    let before = c.loop-left.fields.items in
    let read = subst (λ l. field_at entries bytes l c.loop-left.next ≡ Ok (c.in_ok-one.one, c.in_ok-one.end)) c.as_slice.ensures.value c.in_ok-one.ensures.field in
    let texts = field_texts entries bytes before c.loop-left.next (c.in_ok-one.one, c.in_ok-one.end) read in
    rw c.in_ok-push.ensures.items (record {
      rest = sym (many_after-next (field_at entries bytes) c.args.count c.loop-left._left c.loop-left.next before (c.in_ok-one.one, c.in_ok-one.end) (omega arith) read) ∙ c.loop-left.invariant.rest;
      texts = all_texts entries before c.in_ok-one.one c.loop-left.invariant.texts texts;
      seen = λ key. subst (λ l. contains key_cmp c.field.new.seen key ≡ has_key c.args.texts.now.numbers.items (l ++ c.in_ok-one.one ∷ []) key) c.as_slice.ensures.value (c.in_ok-one.ensures.seen key texts);
    })

pub returns : goal.returns
returns c =
    rw c.from_vec.ensures
    (sym c.loop-left.invariant.rest
    ∙ many_after-end (field_at c.args.pool.now.entries c.args.bytes.now) c.args.count c.loop-left._left c.loop-left.next c.loop-left.fields.items (omega arith))

pub returns-in_err-one : goal.returns-in_err-one
returns-in_err-one c =
    let entries = c.args.pool.now.entries in
    let bytes = c.args.bytes.now in
    let before = c.loop-left.fields.items in
    let failed = subst (λ l. Fails c.in_err-one.field-0.0 (field_at entries bytes l c.loop-left.next)) c.as_slice.ensures.value c.in_err-one.ensures.field in
    let p = err_from_is_err_and c.from_residual.result c.from_residual.ensures.1 in
    rw (p.1, p.2)
    (subst (λ read. Fails c.in_err-one.field-0.0 read) c.loop-left.invariant.rest
    (Fails-many_after c.in_err-one.field-0.0 (field_at entries bytes) c.args.count c.loop-left._left c.loop-left.next before (omega arith) failed))
