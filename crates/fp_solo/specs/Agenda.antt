-- What is wanted, started and due, in lists.
use Rattle.std.specs.Prelude.{◌≡◌, ◌<◌, ◌&&◌, ◌||◌, ℕ, Bool, not, length}
use Rattle.fp_eqs.specs.Demand.{is_started}
use Rattle.fp_eqs.specs.Equations.{Equations, IsIn}
use Rattle.fp_eqs.specs.Solved.{flag_at}
use Rattle.fp_solo.specs.declared.agenda.Agenda.{Agenda}
use Rattle.fp_solo.specs.Queued.{IsDue}

-- a flag for each place and each task, and each task that is due waits in a queue
pub record IsAgenda (e : Equations) (a : Agenda) : Type 0 where
  pub wanted : length a.wanted.items ≡ e.places
  pub started : length a.started.items ≡ e.tasks
  pub due : IsDue e.tasks a.due

-- the tasks that are started are those that the wanted places start
abbrev pub AreStarted : Equations → Agenda → Type 0
AreStarted e a = (t : ℕ) → t < e.tasks → flag_at a.started.items t ≡ is_started e (flag_at a.wanted.items) t

-- tasks z are started where s were, and those that are so newly are due besides the tasks d
pub record HasBegun (s z d c : ℕ → Bool) : Type 0 where
  pub kept : IsIn s z
  pub due : (t : ℕ) → c t ≡ (d t || (z t && not (s t)))

abbrev pub HasMore : Agenda → Agenda → Type 0
HasMore old new = HasBegun (flag_at old.started.items) (flag_at new.started.items) (flag_at old.due.flags.items) (flag_at new.due.flags.items)
