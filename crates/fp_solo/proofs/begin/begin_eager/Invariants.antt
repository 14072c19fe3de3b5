use Rattle.std.proofs.Common.{◌≡◌, ◌<◌, ℕ, false, IsTrue}
use Rattle.fp_eqs.specs.Makers.{is_lazy}
use Rattle.fp_eqs.specs.Solved.{flag_at}
use Rattle.fp_solo.specs.Agenda.{HasMore, IsAgenda}
use Rattle.fp_solo.proofs.begin.begin_eager.Given as goal

abbrev pub invariant-loop-task : goal.invariant-loop-task
invariant-loop-task g l =
    let e = g.S.System.equations l.system.system in
    record {
      agenda : IsAgenda e l.agenda;
      wanted : l.agenda.wanted ≡ l.initial.agenda.wanted;
      more : HasMore l.initial.agenda l.agenda;
      eager : (t : ℕ) → t < l.task → is_lazy (e.task t).start ≡ false → IsTrue (flag_at l.agenda.started.items t);
      only : (t : ℕ) → IsTrue (flag_at l.agenda.started.items t) → is_lazy (e.task t).start ≡ false;
    }
