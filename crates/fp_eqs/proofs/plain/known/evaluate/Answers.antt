-- The asker still answers from the same values, so its answers agree with them.
use Rattle.std.proofs.Common.{◌≡◌, [], slice_index, ap, subst, ◌∙◌}
use Rattle.fp_eqs.specs.Answers.{Agrees}
use Rattle.fp_eqs.specs.Reading.{ReadingBase}
use Rattle.fp_eqs.proofs.plain.known.evaluate.Goals as goal

pub returns-clause-asks : goal.returns-clause-asks
returns-clause-asks g c =
    let r = c.eval.new.ask in
    let same : r.values.now ≡ c.args.values.now = ap (λ (b : ReadingBase). b.values) c.eval.ensures.base in
    c.eval.ensures.evaluated.asks (slice_index c.args.values.now) (subst (λ xs. Agrees (slice_index xs) r.answers.items) same r.same)

pub returns-clause-gives : goal.returns-clause-gives
returns-clause-gives g c =
    let r = c.eval.new.ask in
    let same : r.values.now ≡ c.args.values.now = ap (λ (b : ReadingBase). b.values) c.eval.ensures.base in
    let started : c.reserve.new.self.list ≡ [] = c.in_ok-reserve.ensures.list ∙ c.new-given.ensures.list in
    rw started at (c.eval.ensures.evaluated.gives (slice_index c.args.values.now) (subst (λ xs. Agrees (slice_index xs) r.answers.items) same r.same))
