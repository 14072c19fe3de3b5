-- The asker still answers from the same values, so its answers agree with them.
use Rattle.std.proofs.Common.{◌≡◌, [], slice_index, ap, subst, ◌∙◌}
use Rattle.fp_eqs.specs.Answers.{Agrees, IsGiven}
use Rattle.fp_eqs.specs.Equations.{Equations}
use Rattle.fp_solo.specs.Asked.{Asking}
use Rattle.fp_solo.proofs.evaluate.run.Goals as goal

pub returns-clause-asks : goal.returns-clause-asks
returns-clause-asks g c p =
    let r = c.eval.new.ask in
    let a = slice_index c.args.values.now in
    let same : r.values.now ≡ c.args.values.now = ap (λ (b : Asking). b.values) c.eval.ensures.base in
    let agrees = subst (λ xs. Agrees (slice_index xs) r.questions.answers.items) same r.same in
    c.eval.ensures.evaluated.asks a agrees p ∙ ap (λ (e : Equations). (e.task c.args.task).uses a p) c.requires.named

pub returns-clause-gives : goal.returns-clause-gives
returns-clause-gives g c =
    let r = c.eval.new.ask in
    let a = slice_index c.args.values.now in
    let same : r.values.now ≡ c.args.values.now = ap (λ (b : Asking). b.values) c.eval.ensures.base in
    let agrees = subst (λ xs. Agrees (slice_index xs) r.questions.answers.items) same r.same in
    let given = rw c.requires.none at (c.eval.ensures.evaluated.gives a agrees) in
    subst (λ (e : Equations). IsGiven [] c.eval.new.give.list (e.task c.args.task).gives (e.task c.args.task).makes ((e.task c.args.task).out a)) c.requires.named given
