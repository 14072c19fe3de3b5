use Rattle.std.proofs.Common.{◌≤◌, ◌==◌, ◌||◌, IsTrue, sym, subst, ◌∙◌, inl, inr, arith}
use Rattle.fp_eqs.specs.Makers.{is_maker, rank}
use Rattle.fp_eqs.specs.Solved.{flag_at}
use Rattle.fp_eqs.specs.Tests.{right, either, place-here, same-bool, same-place}
use Rattle.fp_eqs.proofs.MakerLemmas.{rank-below, rank-most}
use Rattle.fp_eqs.proofs.Needed.{makers-more}
use Rattle.fp_solo.proofs.AgendaLemmas.{begun-both}
use Rattle.fp_solo.proofs.agenda.begin_makers.Goals as goal

pub returns-in_default-clause-started : goal.returns-in_default-clause-started
returns-in_default-clause-started g c t lt =
    let e = g.S.System.equations c.args.system.now.system in
    let l = c.loop-k.invariant in
    let was = flag_at c.args.agenda.now.started.items t in
    let none : rank e.task c.args.place e.tasks ≤ c.loop-k.k = c.in_default.ensures in
    same-bool (flag_at c.loop-k.agenda.started.items t) (was || is_maker c.args.place (e.task t)) (l.only t)
    (λ h. elim (either was (is_maker c.args.place (e.task t)) h) [
      | inl before ↦ l.more.kept t before
      | inr maker ↦ l.makers t lt maker (omega (arith, none, rank-below e.task c.args.place t e.tasks lt maker))
    ])

pub loop-k-preserved : goal.loop-k-preserved
loop-k-preserved g c =
    let e = g.S.System.equations c.args.system.now.system in
    let l = c.loop-k.invariant in
    let task = c.in-Some.task in
    let old = c.args.agenda.now in
    let now = c.loop-k.agenda in
    let new = c.begin.new.agenda in
    let told = c.in_ok-begin.ensures in
    let here : IsTrue (flag_at new.started.items task) = subst (λ b. IsTrue b) (sym (told.started task)) (right (flag_at now.started.items task) (task == task) (place-here task)) in
    record {
      agenda = told.agenda;
      wanted = told.wanted ∙ l.wanted;
      more = begun-both (flag_at old.started.items) (flag_at now.started.items) (flag_at new.started.items) (flag_at old.due.flags.items) (flag_at now.due.flags.items) (flag_at new.due.flags.items) l.more told.more;
      makers = makers-more e.task e.tasks c.args.place c.loop-k.k task now.started.items new.started.items c.in-Some.ensures told.more.kept here l.makers;
      only = λ t on. elim (either (flag_at now.started.items t) (task == t) (subst (λ b. IsTrue b) (told.started t) on)) [
        | inl before ↦ l.only t before
        | inr same ↦ right (flag_at old.started.items t) (is_maker c.args.place (e.task t)) (subst (λ u. IsTrue (is_maker c.args.place (e.task u))) (same-place task t same) c.in-Some.ensures.maker)
      ];
    }

pub returns-clause-started : goal.returns-clause-started
returns-clause-started g c t lt =
    let e = g.S.System.equations c.args.system.now.system in
    let l = c.loop-k.invariant in
    let was = flag_at c.args.agenda.now.started.items t in
    same-bool (flag_at c.loop-k.agenda.started.items t) (was || is_maker c.args.place (e.task t)) (l.only t)
    (λ h. elim (either was (is_maker c.args.place (e.task t)) h) [
      | inl before ↦ l.more.kept t before
      | inr maker ↦ l.makers t lt maker (omega (arith, lt, rank-most e.task c.args.place t, c.loop-k-test.false, c.tasks-k-end.ensures))
    ])
