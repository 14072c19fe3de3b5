use Rattle.std.proofs.Common.{◌≡◌, get_or, length, ap, sym, refl, ◌∙◌, arith}
use Rattle.std.proofs.lemmas.List.{get_or_read}
use Rattle.fp_bits.specs.Rows.{IsRowWithin, row_within-at, row_within-each}
use Rattle.fp_bits.proofs.row.within.Goals as goal

pub returns : goal.returns
returns c =
    let xs = c.deref-word-items.result.now in
    let ys = c.b.inside.words.items in
    let a : xs ≡ c.args.a.now = c.deref-word-items.ensures.value ∙ c.a.view_is in
    let b : ys ≡ c.args.b.now = c.b.view_is in
    let same : length xs ≡ length ys = ap length a ∙ c.requires ∙ sym (ap length b) in
    let each : IsRowWithin xs ys = row_within-each xs ys same (λ k lt. c.loop-at.invariant k (omega arith)) in
    (λ _. rw (a, b) at each, λ _. refl)

pub returns-then-word-above : goal.returns-then-word-above
returns-then-word-above c =
    let xs = c.deref-word-items.result.now in
    let ys = c.b.inside.words.items in
    let i = c.loop-at.at in
    let a : xs ≡ c.args.a.now = c.deref-word-items.ensures.value ∙ c.a.view_is in
    let b : ys ≡ c.args.b.now = c.b.view_is in
    let same : length xs ≡ length ys = ap length a ∙ c.requires ∙ sym (ap length b) in
    let e : c.index-above.result.now ≡ get_or ys i 0 = get_or_read ys i _ (omega arith) c.index-above.ensures 0 in
    (λ h. cc, λ h. absurd ((rw e at c.if-word-above.true) (row_within-at xs ys (rw (← a, ← b) at h) i)))
