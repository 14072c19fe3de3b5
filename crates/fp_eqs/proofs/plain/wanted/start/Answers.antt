use Rattle.std.proofs.Common.{rules, ◌≡◌, ◌||◌, ◌∙◌, ℕ, IsTrue, slice_index, ap, subst}
use Rattle.fp_eqs.specs.Answers.{asked}
use Rattle.fp_eqs.specs.Solution.{solution}
use Rattle.fp_eqs.specs.Solved.{flag_at}
use Rattle.fp_eqs.proofs.Needed.{needs-started}
use Rattle.fp_eqs.proofs.Told.{asked-contains}
use Rattle.fp_eqs.proofs.plain.wanted.start.Goals as goal

pub want_asked-requires-clause-places : goal.want_asked-requires-clause-places
want_asked-requires-clause-places g c =
    let law = (g.S.System.monotone c.args.system.now).lawful c.args.task c.requires.task in
    λ p w h. rw c.requires.needs.flag_count (law.uses_places (slice_index c.args.values.now) p
    (subst (λ b. IsTrue b) (c.in_ok-evaluation.ensures.asks p) (asked-contains c.in_ok-evaluation.evaluation.answers.items p w (rw c.deref.ensures.value at h))))

pub returns-clause-needs : goal.returns-clause-needs
returns-clause-needs g c =
    let e = g.S.System.equations c.args.system.now in
    let told = c.in_ok-want_asked.ensures in
    let uses : (p : ℕ) → asked c.deref.result.now p ≡ (e.task c.args.task).uses (solution e) p =
    λ p. ap (λ es. asked es p) c.deref.ensures.value ∙ c.in_ok-evaluation.ensures.asks p ∙ ap (λ (a : ℕ → ℕ). (e.task c.args.task).uses a p) c.requires.solution in
    needs-started e (g.S.System.monotone c.args.system.now) c.args.needs.now _ c.args.task c.requires.task c.requires.runs c.requires.needs told.long
    (λ p. told.marked p ∙ ap (λ b. flag_at c.args.needs.now.wanted.items p || b) (uses p)) told.found
    (search rules)
