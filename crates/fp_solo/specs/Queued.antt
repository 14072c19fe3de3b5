-- The tasks that are due, and the queues in which they wait.
use Rattle.std.specs.Prelude.{◌≡◌, ◌+◌, ◌||◌, ℕ, Bool, length, IsTrue}
use Rattle.fp_eqs.specs.Needs.{is_listed}
use Rattle.fp_eqs.specs.Solved.{flag_at}
use Rattle.fp_solo.specs.declared.due.Queues.{Queues}
use Rattle.fp_solo.specs.declared.due.Due.{Due}

-- whether a task waits in one of the queues
abbrev pub is_queued : Queues → ℕ → Bool
is_queued q t = is_listed q.few.items t || is_listed q.many.items t

-- how many wait
abbrev pub queue_length : Queues → ℕ
queue_length q = length q.few.items + length q.many.items

-- each of so many tasks has a flag, and each that is due waits in a queue
pub record IsDue (tasks : ℕ) (d : Due) : Type 0 where
  pub long : length d.flags.items ≡ tasks
  pub queued : (t : ℕ) → IsTrue (flag_at d.flags.items t) → IsTrue (is_queued d.queues t)
