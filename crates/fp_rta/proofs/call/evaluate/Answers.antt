use Rattle.std.proofs.Common.{◌≡◌, ◌∷◌, [], ◌∙◌, List, ℕ, ap, subst, sym}
use Rattle.fp_eqs.specs.Answers.{told}
use Rattle.fp_rta.proofs.Evaluated.{call-given, call-uses, call-waits}
use Rattle.fp_rta.proofs.call.evaluate.Goals as goal

pub returns-then-reached-eq0-clause-evaluated : goal.returns-then-reached-eq0-clause-evaluated
returns-then-reached-eq0-clause-evaluated g c =
    let q = c.args.trigger in
    let w = c.read-reached.result in
    let asks : g.A.Ask.answers c.read-reached.new.self ≡ (q, w) ∷ [] = c.read-reached.ensures.answers ∙ ap (λ (es : List (ℕ × ℕ)). told es q w) c.requires.fresh in
    call-waits q c.args.callees w c.args.candidates.now _ c.args.give.now.list asks c.if-reached-eq0.true

pub give_candidates-requires-clause-may : goal.give_candidates-requires-clause-may
give_candidates-requires-clause-may g c es p later h =
    let q = c.args.trigger in
    let w = c.read-reached.result in
    subst (λ base. g.A.Ask.allows base es p) (sym c.read-reached.ensures.base)
    (c.requires.serves es p (λ a agrees. call-uses q c.args.callees w c.args.candidates.now a p (later a agrees q w c.read-reached.ensures.answer) c.if-reached-eq0.false h))

pub returns-clause-evaluated : goal.returns-clause-evaluated
returns-clause-evaluated g c =
    let q = c.args.trigger in
    let w = c.read-reached.result in
    let asks : g.A.Ask.answers c.read-reached.new.self ≡ (q, w) ∷ [] = c.read-reached.ensures.answers ∙ ap (λ (es : List (ℕ × ℕ)). told es q w) c.requires.fresh in
    let done = c.give_candidates.ensures in
    call-given q c.args.callees w c.args.candidates.now _ (g.A.Ask.answers c.give_candidates.new.ask) c.args.give.now.list c.give_candidates.new.give.list asks c.if-reached-eq0.false done.later done.asked done.given
