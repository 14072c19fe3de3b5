use Rattle.std.proofs.Common.{◌≡◌, ◌+◌, Ok, [], ◌∷◌, ◌++◌, sym, ◌∙◌, ap, subst, arith, length-append}
use Rattle.std.proofs.lemmas.Result.{err_from_is_err_and}
use Rattle.fp_model.specs.Reading.{Fails}
use Rattle.std.specs.BTreeSet.{contains}
use Rattle.fp_class.specs.Keys.{has_key, key_cmp}
use Rattle.fp_class.specs.Members.{method_at}
use Rattle.fp_class.proofs.MemberTexts.{method_texts, all_texts}
use Rattle.fp_class.proofs.Walks.{many_after-next, many_after-end, Fails-many_after}
use Rattle.fp_class.proofs.members.many_methods.Goals as goal

pub method-requires-clause-before : goal.method-requires-clause-before
method-requires-clause-before c = rw c.as_slice.ensures.value c.loop-left.invariant.texts

pub method-requires-clause-seen : goal.method-requires-clause-seen
method-requires-clause-seen c = λ key. rw c.as_slice.ensures.value (c.loop-left.invariant.seen key)

pub method-requires-clause-few : goal.method-requires-clause-few
method-requires-clause-few c = rw c.as_slice.ensures.value (omega (arith, c.loop-left.invariant.size, c.loop-left-test.true, c.ranges.count.fits))

pub loop-left-preserved : goal.loop-left-preserved
loop-left-preserved c =
    let entries = c.args.pool.now.entries in
    let bytes = c.args.bytes.now in
    let before = c.loop-left.methods.items in
    let read = subst (λ l. method_at entries bytes l c.loop-left.next ≡ Ok (c.in_ok-one.one, c.in_ok-one.end)) c.as_slice.ensures.value c.in_ok-one.ensures.method in
    let texts = method_texts entries bytes before c.loop-left.next (c.in_ok-one.one, c.in_ok-one.end) read in
    rw c.in_ok-push.ensures.items (record {
      rest = sym (many_after-next (method_at entries bytes) c.args.count c.loop-left._left c.loop-left.next before (c.in_ok-one.one, c.in_ok-one.end) (omega arith) read) ∙ c.loop-left.invariant.rest;
      texts = all_texts entries before c.in_ok-one.one c.loop-left.invariant.texts texts;
      seen = λ key. subst (λ l. contains key_cmp c.method.new.seen key ≡ has_key c.args.texts.now.numbers.items (l ++ c.in_ok-one.one ∷ []) key) c.as_slice.ensures.value (c.in_ok-one.ensures.seen key texts);
      size = length-append before (c.in_ok-one.one ∷ []) ∙ ap (λ n. n + 1) c.loop-left.invariant.size;
    })

pub returns : goal.returns
returns c =
    rw c.from_vec.ensures
    (sym c.loop-left.invariant.rest
    ∙ many_after-end (method_at c.args.pool.now.entries c.args.bytes.now) c.args.count c.loop-left._left c.loop-left.next c.loop-left.methods.items (omega arith))

pub returns-in_err-one : goal.returns-in_err-one
returns-in_err-one c =
    let entries = c.args.pool.now.entries in
    let bytes = c.args.bytes.now in
    let before = c.loop-left.methods.items in
    let failed = subst (λ l. Fails c.in_err-one.field-0.0 (method_at entries bytes l c.loop-left.next)) c.as_slice.ensures.value c.in_err-one.ensures.method in
    let p = err_from_is_err_and c.from_residual.result c.from_residual.ensures.1 in
    rw (p.1, p.2)
    (subst (λ read. Fails c.in_err-one.field-0.0 read) c.loop-left.invariant.rest
    (Fails-many_after c.in_err-one.field-0.0 (method_at entries bytes) c.args.count c.loop-left._left c.loop-left.next before (omega arith) failed))
