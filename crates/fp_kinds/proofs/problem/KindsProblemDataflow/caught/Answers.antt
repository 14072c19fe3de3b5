use Rattle.std.proofs.Common.{◌≡◌, ℕ, true, ap, ◌∙◌}
use Rattle.std.proofs.lemmas.Result.{IfOk-weaker}
use Rattle.fp_model.specs.declared.kind.Sort.{Sort}
use Rattle.fp_facts.specs.declared.label.Label.{Label}
use Rattle.fp_facts.specs.Transfer.{kinds_problem, to_handler}
use Rattle.fp_kinds.proofs.problem.KindsProblemDataflow.caught.Goals as goal

pub returns : goal.returns
returns c =
    let p = c.args.self.now in
    IfOk-weaker c.to_handler.result
    (λ (l : Label Sort). l ≡ to_handler c.args.before.now c.args.behind.now)
    (λ (l : Label Sort). (to : ℕ) → l ≡ (kinds_problem p.code.now p.arguments.now p.results.now p.edges.now).carry (c.args._node, to, true) c.args.before.now)
    (λ l e to. e ∙ ap (λ b. to_handler c.args.before.now b) (c.requires.behind to))
    c.to_handler.ensures
