use Rattle.std.proofs.Common.{◌<◌, ℕ, IsTrue}
use Rattle.fp_eqs.specs.Solved.{flag_at}
use Rattle.fp_solo.specs.Agenda.{AreStarted, HasMore, IsAgenda}
use Rattle.fp_solo.proofs.begin.want_shown.Given as goal

abbrev pub invariant-loop-place : goal.invariant-loop-place
invariant-loop-place g l =
    let e = g.S.System.equations l.system.system in
    record {
      agenda : IsAgenda e l.agenda;
      starts : AreStarted e l.agenda;
      more : HasMore l.initial.agenda l.agenda;
      shown : (p : ℕ) → p < l.place → IsTrue (e.shown p) → IsTrue (flag_at l.agenda.wanted.items p);
      only : (p : ℕ) → IsTrue (flag_at l.agenda.wanted.items p) → IsTrue (e.shown p);
    }
