-- The recorded reads as links between tasks and places.
use Rattle.std.specs.Prelude.{◌≡◌, ◌<◌, ◌≤◌, ℕ, Bool, length, IsTrue}
use Rattle.fp_eqs.specs.Equations.{Equations, count_below}
use Rattle.fp_links.specs.Linked.{Linked, has_task, row}

-- whether a task's reads hold a place
abbrev pub is_read : Linked → ℕ → ℕ → Bool
is_read l t p = has_task (row l p) t

-- all places and tasks are known, and only tasks of the system read any
pub record AreReads (e : Equations) (l : Linked) : Type 0 where
  pub places : e.places ≤ length l.rows
  pub tasks : e.tasks ≤ l.tasks
  pub readers : (t p : ℕ) → IsTrue (is_read l t p) → t < e.tasks

-- so many places pass, below any limit that is above them all
abbrev pub IsCount : (ℕ → Bool) → ℕ → Type 0
IsCount reads count = (n : ℕ) → ((p : ℕ) → IsTrue (reads p) → p < n) → count_below reads n ≡ count
