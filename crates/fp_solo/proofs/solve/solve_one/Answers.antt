use Rattle.std.proofs.Common.{◌≡◌, ◌+◌, ◌-◌, ℕ, Bool, List, IsTrue, length, slice_index, if◌then◌else◌, ap, sym, subst, ◌∙◌, arith}
use Rattle.fp_bits.specs.Words.{IsWithin}
use Rattle.fp_eqs.specs.Bounds.{evaluation_bound}
use Rattle.fp_eqs.specs.Solution.{solution}
use Rattle.fp_eqs.specs.Solved.{flag_at}
use Rattle.fp_solo.specs.Working.{IsSolvingBy, IsWork}
use Rattle.fp_solo.proofs.WorkLemmas.{end-by}
use Rattle.fp_solo.proofs.solve.solve_one.Goals as goal

pub returns-in_err-step-clause-few : goal.returns-in_err-step-clause-few
returns-in_err-step-clause-few g c =
    let l = c.loop-work.invariant in
    let n = c.loop-work.system.evals - c.args.system.now.evals in
    let before = subst (λ s. IsSolvingBy (g.S.System.equations s) c.loop-work.work n) (sym l.system) l.solving in
    let same : evaluation_bound (g.S.System.equations c.loop-work.system.system) ≡ evaluation_bound (g.S.System.equations c.args.system.now.system) = ap (λ s. evaluation_bound (g.S.System.equations s)) l.system in
    omega (arith, c.step.ensures.few n before, same, l.later)

pub returns-clause-few : goal.returns-clause-few
returns-clause-few g c =
    let l = c.loop-work.invariant in
    let n = c.loop-work.system.evals - c.args.system.now.evals in
    let before = subst (λ s. IsSolvingBy (g.S.System.equations s) c.loop-work.work n) (sym l.system) l.solving in
    let same : evaluation_bound (g.S.System.equations c.loop-work.system.system) ≡ evaluation_bound (g.S.System.equations c.args.system.now.system) = ap (λ s. evaluation_bound (g.S.System.equations s)) l.system in
    omega (arith, c.step.ensures.few n before, same, l.later)

pub loop-work-smaller : goal.loop-work-smaller
loop-work-smaller g c =
    let l = c.loop-work.invariant in
    let n = c.loop-work.system.evals - c.args.system.now.evals in
    let before = subst (λ s. IsSolvingBy (g.S.System.equations s) c.loop-work.work n) (sym l.system) l.solving in
    let same : evaluation_bound (g.S.System.equations c.loop-work.system.system) ≡ evaluation_bound (g.S.System.equations c.args.system.now.system) = ap (λ s. evaluation_bound (g.S.System.equations s)) l.system in
    let one_more : c.step.new.system.evals ≡ c.loop-work.system.evals + 1 = c.in_ok-step.ensures.evals ∙ ap (λ b. if b then c.loop-work.system.evals + 1 else c.loop-work.system.evals) c.if-branch.true in
    omega (arith, c.step.ensures.few n before, same, one_more, l.later)

pub loop-work-preserved : goal.loop-work-preserved
loop-work-preserved g c =
    let l = c.loop-work.invariant in
    let told = c.in_ok-step.ensures in
    let new = c.step.new.work in
    let n = c.loop-work.system.evals - c.args.system.now.evals in
    let before = subst (λ s. IsSolvingBy (g.S.System.equations s) c.loop-work.work n) (sym l.system) l.solving in
    let one_more : c.step.new.system.evals ≡ c.loop-work.system.evals + 1 = told.evals ∙ ap (λ b. if b then c.loop-work.system.evals + 1 else c.loop-work.system.evals) c.if-branch.true in
    let count : n + 1 ≡ c.step.new.system.evals - c.args.system.now.evals = omega (arith, one_more, l.later) in
    let is : (if c.in_ok-step.field-0 then n + 1 else n) ≡ c.step.new.system.evals - c.args.system.now.evals = ap (λ b. if b then n + 1 else n) c.if-branch.true ∙ count in
    let after = subst (λ k. IsSolvingBy (g.S.System.equations c.loop-work.system.system) new k) is (told.solving n before) in
    record {
      system = c.step.ensures.system ∙ l.system;
      work = subst (λ s. IsWork (g.S.System.equations s) new) l.system told.work;
      later = omega (arith, one_more, l.later);
      solving = subst (λ s. IsSolvingBy (g.S.System.equations s) new (c.step.new.system.evals - c.args.system.now.evals)) l.system after;
    }

pub returns-clause-solved : goal.returns-clause-solved
returns-clause-solved g c =
    let l = c.loop-work.invariant in
    let told = c.in_ok-step.ensures in
    let new = c.step.new.work in
    let e = g.S.System.equations c.args.system.now.system in
    let n = c.loop-work.system.evals - c.args.system.now.evals in
    let before = subst (λ s. IsSolvingBy (g.S.System.equations s) c.loop-work.work n) (sym l.system) l.solving in
    let is : (if c.in_ok-step.field-0 then n + 1 else n) ≡ n = ap (λ b. if b then n + 1 else n) c.if-branch.false in
    let after = subst (λ k. IsSolvingBy (g.S.System.equations c.loop-work.system.system) new k) is (told.solving n before) in
    let solving : IsSolvingBy e new n = subst (λ s. IsSolvingBy (g.S.System.equations s) new n) l.system after in
    let work : IsWork e new = subst (λ s. IsWork (g.S.System.equations s) new) l.system told.work in
    let end = end-by e (g.S.System.monotone c.args.system.now.system) new n solving (told.none c.if-branch.false) in
    record {
      value_count = ap length c.from_vec-values.ensures ∙ work.values;
      wanted_count = ap length c.from_vec-wanted.ensures ∙ work.agenda.wanted;
      wanted = λ p. ap (λ (xs : List Bool). flag_at xs p) c.from_vec-wanted.ensures ∙ end.0 p;
      exact = λ p h. ap (λ (xs : List ℕ). slice_index xs p) c.from_vec-values.ensures ∙ end.1 p (subst (λ b. IsTrue b) (sym (end.0 p)) h);
      within = λ p. subst (λ (xs : List ℕ). IsWithin (slice_index xs p) (solution e p)) (sym c.from_vec-values.ensures) (solving.below p);
    }
