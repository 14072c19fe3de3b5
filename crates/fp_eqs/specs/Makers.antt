-- The lazy tasks that can give to a place, in ascending order.
use Rattle.std.specs.Prelude.{◌≡◌, ◌<◌, ◌≤◌, ◌&&◌, ℕ, Bool, true, false, IsTrue, Option, Some, None}
use Rattle.fp_eqs.specs.declared.start.Start.{Start}
use Rattle.fp_eqs.specs.declared.start.Start.TheVariants.{Always, Triggered, Lazy}
use Rattle.fp_eqs.specs.Equations.{Task, count_below}

abbrev pub is_lazy : Start → Bool
is_lazy Always = false
is_lazy (Triggered p) = false
is_lazy Lazy = true

abbrev pub is_maker : ℕ → Task → Bool
is_maker p k = is_lazy k.start && k.makes p

-- how many makers of a place stand before a task
abbrev pub rank : (ℕ → Task) → ℕ → ℕ → ℕ
rank task p t = count_below (λ u. is_maker p (task u)) t

-- the task is the maker of the place that has so many before it
pub record IsMakerAt (task : ℕ → Task) (tasks p k t : ℕ) : Type 0 where
  pub below : t < tasks
  pub maker : IsTrue (is_maker p (task t))
  pub ranked : rank task p t ≡ k

-- a maker's number, or none exactly where there are not so many
abbrev pub IsMakerOf : (ℕ → Task) → ℕ → ℕ → ℕ → Option ℕ → Type 0
IsMakerOf task tasks p k None = rank task p tasks ≤ k
IsMakerOf task tasks p k (Some t) = IsMakerAt task tasks p k t
