-- What stands while a system is solved on demand.
use Rattle.std.specs.Prelude.{◌≡◌, ◌≢◌, ◌==◌, ◌<◌, ◌≤◌, ◌+◌, ◌&&◌, ◌||◌, ℕ, Bool, false, not, IsTrue, if◌then◌else◌}
use Rattle.fp_eqs.specs.Bounds.{sum_below, new_bits}
use Rattle.fp_eqs.specs.Demand.{any_below, demand, is_started}
use Rattle.fp_eqs.specs.Equations.{Equations, Task, IsBelow, IsIn, count_below}
use Rattle.fp_eqs.specs.Solution.{solution}

-- a task whose recorded reads are the places that it uses, and whose contributions are all there
pub record IsSettled (k : Task) (v : ℕ → ℕ) (r : ℕ → Bool) : Type 0 where
  pub reads : (p : ℕ) → k.uses v p ≡ r p
  pub closed : IsBelow (k.out v) v

-- how many evaluations of a task its start and the values pay for: one, and one for each bit that a place which it uses has gained
abbrev pub pays : Equations → (ℕ → ℕ) → (ℕ → Bool) → ℕ → ℕ
pays e v s t = if s t then 1 + sum_below (λ p. if (e.task t).uses (solution e) p then new_bits (e.fixed p) (v p) else 0) e.places else 0

-- the values v, the wanted places w, the started tasks s, the tasks d that are due, the recorded reads r of each task, and how many
-- evaluations there were
pub record IsSolving (e : Equations) (v : ℕ → ℕ) (w s d : ℕ → Bool) (r : ℕ → ℕ → Bool) (evals : ℕ) : Type 0 where
  pub above : IsBelow e.fixed v
  pub below : IsBelow v (solution e)
  pub shown : IsIn e.shown w
  pub demanded : IsIn w (demand e)
  pub starts : (t : ℕ) → t < e.tasks → s t ≡ is_started e w t
  pub reads_wanted : (t p : ℕ) → IsTrue (r t p) → IsTrue (w p)
  pub reads_used : (t p : ℕ) → IsTrue (r t p) → IsTrue ((e.task t).uses (solution e) p)
  pub reads_started : (t p : ℕ) → IsTrue (r t p) → IsTrue (s t)
  pub due_started : (t : ℕ) → IsTrue (d t) → IsTrue (s t)
  pub started_tasks : (t : ℕ) → IsTrue (s t) → t < e.tasks
  pub settled : (t : ℕ) → t < e.tasks → IsTrue (s t) → d t ≡ false → IsSettled (e.task t) v (r t)
  pub few : evals + count_below d e.tasks ≤ sum_below (pays e v s) e.tasks

-- values grew from v to u, the tasks d that were due are so still, and those besides are the ones that read a place which changed
pub record Wakes (places : ℕ) (r : ℕ → ℕ → Bool) (v u : ℕ → ℕ) (d c : ℕ → Bool) : Type 0 where
  pub grows : IsBelow v u
  pub kept : (t : ℕ) → IsTrue (d t) → IsTrue (c t)
  pub woken : (t p : ℕ) → IsTrue (r t p) → v p ≢ u p → IsTrue (c t)
  pub only : (t : ℕ) → IsTrue (c t) → IsTrue (d t || any_below (λ p. r t p && not (v p == u p)) places)
