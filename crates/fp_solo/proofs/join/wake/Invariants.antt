use Rattle.std.proofs.Common.{◌≡◌, ◌||◌, ℕ, Some, length, IsTrue}
use Rattle.fp_eqs.specs.Solved.{flag_at}
use Rattle.fp_links.specs.Linked.{has_edge, has_task, rest_of, row}
use Rattle.fp_solo.specs.Queued.{IsDue}
use Rattle.fp_solo.proofs.join.wake.Given as goal

abbrev pub invariant-loop-next : goal.invariant-loop-next
invariant-loop-next g l = record {
  due : IsDue (g.S.System.equations l.system.system).tasks l.due;
  rest : (t : ℕ) → (flag_at l.due.flags.items t || has_task (rest_of (row l.reads l.place) l.next) t) ≡ (flag_at l.initial.due.flags.items t || has_task (row l.reads l.place) t);
  inside : (e : ℕ) → l.next ≡ Some e → IsTrue (has_edge (row l.reads l.place) e);
}

abbrev pub decreases-loop-next : goal.decreases-loop-next
decreases-loop-next g l = length (rest_of (row l.reads l.place) l.next)
