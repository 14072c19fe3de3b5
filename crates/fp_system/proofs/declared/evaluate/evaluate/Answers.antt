use Rattle.std.proofs.Common.{◌≡◌, ◌∷◌, [], ◌++◌, ◌∙◌, ap, sym, ℕ, List}
use Rattle.fp_eqs.specs.Answers.{told}
use Rattle.fp_system.proofs.RowLemmas.{row_evaluated}
use Rattle.fp_system.proofs.declared.evaluate.evaluate.Goals as goal

pub returns-in-Some-clause-evaluated : goal.returns-in-Some-clause-evaluated
returns-in-Some-clause-evaluated g c =
    let q = c.in-Some.parent in
    let w = c.read-word.result in
    let asks : g.A.Ask.answers c.read-word.new.self ≡ (q, w) ∷ [] = c.read-word.ensures.answers ∙ ap (λ (es : List (ℕ × ℕ)). told es q w) c.requires.fresh in
    row_evaluated c.args.row q w _ _ _ (sym c.in-Some.is) asks (c.add.ensures.list ∙ ap (λ v. c.args.give.now.list ++ (c.args.row.place, v) ∷ []) c.word_of.ensures)
