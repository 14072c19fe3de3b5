use Rattle.std.proofs.Common.{◌≡◌, ◌<◌, ◌||◌, ℕ, IsTrue}
use Rattle.fp_eqs.specs.Makers.{is_maker, rank}
use Rattle.fp_eqs.specs.Solved.{flag_at}
use Rattle.fp_solo.specs.Agenda.{HasMore, IsAgenda}
use Rattle.fp_solo.proofs.agenda.begin_makers.Given as goal

abbrev pub invariant-loop-k : goal.invariant-loop-k
invariant-loop-k g l =
    let e = g.S.System.equations l.system.system in
    record {
      agenda : IsAgenda e l.agenda;
      wanted : l.agenda.wanted ≡ l.initial.agenda.wanted;
      more : HasMore l.initial.agenda l.agenda;
      makers : (t : ℕ) → t < e.tasks → IsTrue (is_maker l.place (e.task t)) → rank e.task l.place t < l.k → IsTrue (flag_at l.agenda.started.items t);
      only : (t : ℕ) → IsTrue (flag_at l.agenda.started.items t) → IsTrue (flag_at l.initial.agenda.started.items t || is_maker l.place (e.task t));
    }
