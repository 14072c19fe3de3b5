use Rattle.std.proofs.Common.{◌≡◌, ℕ, IsTrue}
use Rattle.fp_eqs.specs.Solved.{flag_at}
use Rattle.fp_solo.specs.Queued.{is_queued, queue_length}
use Rattle.fp_solo.proofs.due.Due.take.Given as goal

abbrev pub invariant-loop-task : goal.invariant-loop-task
invariant-loop-task l = record {
  flags : l.self.flags ≡ l.initial.self.flags;
  queued : (t : ℕ) → IsTrue (flag_at l.self.flags.items t) → IsTrue (is_queued l.self.queues t);
}

abbrev pub decreases-loop-task : goal.decreases-loop-task
decreases-loop-task l = queue_length l.self.queues
