use Rattle.std.proofs.Common.{◌≡◌, ◌==◌, ◌&&◌, ℕ, Bool, false, not, IsTrue, Vec, Global, refl, ap, sym, subst, ◌∙◌, inl, inr, arith}
use Rattle.std.proofs.lemmas.Bool.{cases_lt, not-true}
use Rattle.fp_eqs.specs.Demand.{is_started}
use Rattle.fp_eqs.specs.Makers.{is_lazy}
use Rattle.fp_eqs.specs.Solved.{flag_at}
use Rattle.fp_eqs.specs.Tests.{right, either, both, parts, place-here, same-bool, same-place}
use Rattle.fp_eqs.proofs.Needed.{eager-started}
use Rattle.fp_solo.proofs.AgendaLemmas.{begun-both, begun-none, none-starts}
use Rattle.fp_solo.proofs.begin.begin_eager.Goals as goal

pub loop-task-init : goal.loop-task-init
loop-task-init g c = record {
  agenda = c.requires.agenda;
  wanted = refl;
  more = begun-none (flag_at c.args.agenda.now.started.items) (flag_at c.args.agenda.now.due.flags.items);
  eager = λ t lt h. absurd (omega arith);
  only = λ t h. let none = c.requires.started t in cc;
}

pub loop-task-preserved : goal.loop-task-preserved
loop-task-preserved g c =
    let e = g.S.System.equations c.args.system.now.system in
    let l = c.loop-task.invariant in
    let task = c.loop-task.task in
    let old = c.args.agenda.now in
    let now = c.loop-task.agenda in
    let new = c.begin_if_eager.new.agenda in
    let told = c.in_ok-begin_if_eager.ensures in
    record {
      agenda = told.agenda;
      wanted = told.wanted ∙ l.wanted;
      more = begun-both (flag_at old.started.items) (flag_at now.started.items) (flag_at new.started.items) (flag_at old.due.flags.items) (flag_at now.due.flags.items) (flag_at new.due.flags.items) l.more told.more;
      eager = λ t lt h. elim (cases_lt t task) [
        | inl less ↦ told.more.kept t (l.eager t less h)
        | inr past ↦
            (let is : t ≡ task = omega arith in
            let here : is_lazy (e.task task).start ≡ false = subst (λ i. is_lazy (e.task i).start ≡ false) is h in
            let started : IsTrue (flag_at new.started.items task) = subst (λ b. IsTrue b) (sym (told.started task))
            (right (flag_at now.started.items task) (task == task && not (is_lazy (e.task task).start)) (both (task == task) (not (is_lazy (e.task task).start)) (place-here task) (ap not here))) in
            subst (λ i. IsTrue (flag_at new.started.items i)) (sym is) started)
      ];
      only = λ t h. elim (either (flag_at now.started.items t) (task == t && not (is_lazy (e.task task).start)) (subst (λ b. IsTrue b) (told.started t) h)) [
        | inl before ↦ l.only t before
        | inr here ↦
            (let known = parts (task == t) (not (is_lazy (e.task task).start)) here in
            subst (λ i. is_lazy (e.task i).start ≡ false) (same-place task t known.0) (not-true (is_lazy (e.task task).start) known.1))
      ];
    }

pub returns-clause-starts : goal.returns-clause-starts
returns-clause-starts g c t lt =
    let e = g.S.System.equations c.args.system.now.system in
    let l = c.loop-task.invariant in
    let now = c.loop-task.agenda in
    let none : (p : ℕ) → flag_at now.wanted.items p ≡ false = λ p. ap (λ (v : Vec Bool Global). flag_at v.items p) l.wanted ∙ c.requires.wanted p in
    same-bool (flag_at now.started.items t) (is_started e (flag_at now.wanted.items) t) (λ h. eager-started e (flag_at now.wanted.items) t (l.only t h))
    (λ h. l.eager t (omega (arith, lt, c.loop-task-test.false, c.tasks-task-end.ensures)) (none-starts e (flag_at now.wanted.items) t none h))
