-- One step of solving a system on demand.
use Rattle.std.specs.Prelude.{◌≡◌, ◌==◌, ◌<◌, ◌^◌, ◌&&◌, ◌||◌, ℕ, Bool, not, IsTrue, bit_or, if◌then◌else◌}
use Rattle.fp_eqs.specs.Demand.{is_started}
use Rattle.fp_eqs.specs.Equations.{Equations}
use Rattle.fp_solo.specs.Solving.{Wakes}

-- what is known while a system is solved: values, wanted places, started and due tasks, and recorded reads
pub record State : Type 0 where
  pub values : ℕ → ℕ
  pub wanted : ℕ → Bool
  pub started : ℕ → Bool
  pub due : ℕ → Bool
  pub reads : ℕ → ℕ → Bool

-- a task that was due is evaluated at the values: its reads are recorded, the places that it uses wanted and their makers
-- started, its contributions joined, and the readers of what changed are due
pub record IsStep (e : Equations) (task : ℕ) (old new : State) : Type 0 where
  pub was_due : IsTrue (old.due task)
  pub values : (p : ℕ) → new.values p ≡ bit_or (old.values p) ((e.task task).out old.values p)
  pub wanted : (p : ℕ) → new.wanted p ≡ (old.wanted p || (e.task task).uses old.values p)
  pub started : (t : ℕ) → t < e.tasks → new.started t ≡ is_started e new.wanted t
  pub started_tasks : (t : ℕ) → IsTrue (new.started t) → t < e.tasks
  pub reads : (t p : ℕ) → new.reads t p ≡ (if t == task then (e.task task).uses old.values p else old.reads t p)
  pub wakes : Wakes e.places new.reads old.values new.values (λ t. (old.due t && not (task == t)) || (new.started t && not (old.started t))) new.due

abbrev pub IsWord : (ℕ → ℕ) → Type 0
IsWord values = (p : ℕ) → values p < 2 ^ 64
