use Rattle.std.proofs.Common.{◌≡◌, ◌∷◌, [], ◌∙◌, ap, cond, ℕ, List}
use Rattle.std.proofs.lemmas.Bool.{ne_eqb}
use Rattle.fp_eqs.specs.declared.start.Start.TheVariants.{Lazy}
use Rattle.fp_eqs.specs.Answers.{told}
use Rattle.fp_eqs.specs.Demos.{constant_task, copy_task}
use Rattle.fp_eqs.specs.Idle.{idle_task}
use Rattle.fp_eqs.proofs.DemoLemmas.{copy-evaluated}
use Rattle.fp_tests.proofs.tests.eqs.IdleSystem.eval.Goals as goal

pub returns-else-task-eq0-clause-evaluated : goal.returns-else-task-eq0-clause-evaluated
returns-else-task-eq0-clause-evaluated g c =
    let t = c.args.task in
    let w = c.read-value.result in
    let copies : idle_task t ≡ copy_task Lazy 0 1 = ap (λ b. cond b (constant_task 0) (copy_task Lazy 0 1)) (ne_eqb t 0 c.if-task-eq0.false) in
    let asks : g.A.Ask.answers c.read-value.new.self ≡ (0, w) ∷ [] = c.read-value.ensures.answers ∙ ap (λ (es : List (ℕ × ℕ)). told es 0 w) c.requires.fresh in
    rw copies (copy-evaluated Lazy 0 1 w _ _ _ asks c.add-else-task-eq0.ensures.list)
