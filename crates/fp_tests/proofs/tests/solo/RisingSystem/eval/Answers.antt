use Rattle.std.proofs.Common.{◌≡◌, ◌∷◌, [], ◌++◌, ◌∙◌, ap, ℕ, List}
use Rattle.fp_eqs.specs.Answers.{told}
use Rattle.fp_tests.specs.Rising.{next_bits}
use Rattle.fp_tests.proofs.RisingLemmas.{rising-evaluated}
use Rattle.fp_tests.proofs.tests.solo.RisingSystem.eval.Goals as goal

pub returns-clause-evaluated : goal.returns-clause-evaluated
returns-clause-evaluated g c =
    let w = c.read-value.result in
    let asks : g.A.Ask.answers c.read-value.new.self ≡ (0, w) ∷ [] = c.read-value.ensures.answers ∙ ap (λ (es : List (ℕ × ℕ)). told es 0 w) c.requires.fresh in
    let gives = c.add.ensures.list ∙ ap (λ v. c.args.give.now.list ++ (0, v) ∷ []) c.next_bits.ensures in
    rising-evaluated w _ _ _ asks gives
