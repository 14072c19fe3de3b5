use Rattle.std.proofs.Common.{◌≡◌, length, slice_index, if◌then◌else◌, ap, sym, ◌∙◌, inl, inr, subst}
use Rattle.std.proofs.lemmas.Bool.{cases_eq, eq-eqb, ne_eqb}
use Rattle.std.proofs.lemmas.List.{get_or_read}
use Rattle.fp_eqs.specs.Answers.{asked}
use Rattle.fp_eqs.proofs.Told.{asked-answer}
use Rattle.fp_solo.specs.Recorded.{is_read}
use Rattle.fp_solo.proofs.CountLemmas.{count-asked, same-reads}
use Rattle.fp_solo.proofs.record.record_reads.Goals as goal

pub returns-then-index-answers-clause-reads : goal.returns-then-index-answers-clause-reads
returns-then-index-answers-clause-reads c t p =
    let old = c.args.reads.now in
    let task = c.args.task in
    let es = c.args.answers.now in
    let count : c.index.result.now ≡ slice_index old.counts.items task = get_or_read old.counts.items task _ c.requires.counted c.index.ensures 0 in
    let many : slice_index old.counts.items task ≡ length es = sym count ∙ c.if-index-answers.true in
    let same = same-reads (is_read old.links task) (asked es) (slice_index old.counts.items task) (length es) (length old.links.rows) c.requires.count (count-asked es c.requires.once) many c.requires.before
    (λ q h. let told = asked-answer es q h in c.requires.places q told.answer told.given) in
    elim (cases_eq t task) [
      | inl here ↦ subst (λ i. is_read old.links i p ≡ asked es p) (sym here) (same p) ∙ sym (ap (λ b. if b then asked es p else is_read old.links t p) (eq-eqb t task here))
      | inr other ↦ sym (ap (λ b. if b then asked es p else is_read old.links t p) (ne_eqb t task other))
    ]
