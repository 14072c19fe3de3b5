use Rattle.std.proofs.Common.{◌≡◌, ◌||◌, ℕ, take}
use Rattle.fp_eqs.specs.Answers.{asked}
use Rattle.fp_eqs.specs.Solved.{flag_at}
use Rattle.fp_solo.specs.Agenda.{AreStarted, HasMore, IsAgenda}
use Rattle.fp_solo.proofs.agenda.want_answers.Given as goal

abbrev pub invariant-loop-place : goal.invariant-loop-place
invariant-loop-place g l =
    let e = g.S.System.equations l.system.system in
    record {
      agenda : IsAgenda e l.agenda;
      starts : AreStarted e l.agenda;
      wanted : (p : ℕ) → flag_at l.agenda.wanted.items p ≡ (flag_at l.initial.agenda.wanted.items p || asked (take l.place-index l.answers) p);
      more : HasMore l.initial.agenda l.agenda;
    }
