use Rattle.std.proofs.Common.{◌≡◌, ◌<◌, ◌+◌, ℕ, slice_index, sym, subst, arith}
use Rattle.fp_eqs.specs.Answers.{asked}
use Rattle.fp_eqs.specs.Solved.{flag_at}
use Rattle.fp_solo.specs.Recorded.{is_read}
use Rattle.fp_solo.specs.Working.{IsSolvingBy}
use Rattle.fp_solo.proofs.QuestionLemmas.{few-asks, flag-inside}
use Rattle.fp_solo.proofs.SolvingLemmas.{step-solving}
use Rattle.fp_solo.proofs.WorkLemmas.{bound-by, left-by}
use Rattle.fp_solo.proofs.work.step.Goals as goal

pub returns-in_default-clause-few : goal.returns-in_default-clause-few
returns-in_default-clause-few g c n h =
    omega (arith, bound-by (g.S.System.equations c.args.system.now.system) (g.S.System.monotone c.args.system.now.system) c.args.work.now n h)

pub returns-in_err-prepare-clause-few : goal.returns-in_err-prepare-clause-few
returns-in_err-prepare-clause-few g c n h =
    omega (arith, bound-by (g.S.System.equations c.args.system.now.system) (g.S.System.monotone c.args.system.now.system) c.args.work.now n h)

pub commit-requires-clause-few : goal.commit-requires-clause-few
commit-requires-clause-few g c =
    let e = g.S.System.equations c.args.system.now.system in
    let task = c.in-Some.task in
    let known : task < e.tasks = subst (λ k. task < k) c.requires.agenda.due.long (flag-inside c.args.work.now.agenda.due.flags.items task c.in-Some.ensures.was_due) in
    let law = (g.S.System.monotone c.args.system.now.system).lawful task known in
    let asks : (p : ℕ) → asked c.evaluate.new.page.questions.answers.items p ≡ (e.task task).uses (slice_index c.args.work.now.values.items) p = λ p. rw c.deref.ensures.value at (c.evaluate.ensures.asks p) in
    omega (arith, few-asks e.places (e.task task) (slice_index c.args.work.now.values.items) c.evaluate.new.page.questions.answers.items law c.evaluate.ensures.once asks, c.bound.ensures.asks)

pub returns-in_err-commit-clause-few : goal.returns-in_err-commit-clause-few
returns-in_err-commit-clause-few g c n h =
    omega (arith, left-by (g.S.System.equations c.args.system.now.system) (g.S.System.monotone c.args.system.now.system) c.args.work.now n c.in-Some.task h c.in-Some.ensures.was_due, c.evaluate.ensures.evals)

pub returns-clause-few : goal.returns-clause-few
returns-clause-few g c n h =
    omega (arith, left-by (g.S.System.equations c.args.system.now.system) (g.S.System.monotone c.args.system.now.system) c.args.work.now n c.in-Some.task h c.in-Some.ensures.was_due, c.evaluate.ensures.evals)

pub returns-clause-solving : goal.returns-clause-solving
returns-clause-solving g c n h =
    let same = c.evaluate.ensures.system in
    let e = g.S.System.equations c.evaluate.new.system.system in
    let old = c.args.work.now in
    let new = c.commit.new.work in
    let told = c.in_ok-commit.ensures in
    let before = subst (λ s. IsSolvingBy (g.S.System.equations s) old n) (sym same) h in
    let after : IsSolvingBy e new (n + 1) =
    step-solving e (g.S.System.monotone c.evaluate.new.system.system) (slice_index old.values.items) (slice_index new.values.items) (flag_at old.agenda.wanted.items) (flag_at new.agenda.wanted.items)
    (flag_at old.agenda.started.items) (flag_at new.agenda.started.items) (flag_at old.agenda.due.flags.items) (flag_at c.take.new.self.flags.items) (flag_at new.agenda.due.flags.items) (is_read old.reads.links) (is_read new.reads.links)
    n c.in-Some.task before c.in-Some.ensures.was_due c.in-Some.ensures.taken told.taken.values told.taken.wanted told.work.starts
    (λ i on. subst (λ k. i < k) told.work.agenda.started (flag-inside new.agenda.started.items i on)) told.taken.reads told.taken.wakes in
    subst (λ s. IsSolvingBy (g.S.System.equations s) new (n + 1)) same after
