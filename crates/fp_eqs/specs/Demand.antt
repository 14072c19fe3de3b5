-- The places that are demanded: those shown, and those that a started task uses at the solution.
use Rattle.std.specs.Prelude.{◌<◌, ◌+◌, ◌&&◌, ◌||◌, ℕ, Bool, true, false, IsTrue}
use Rattle.std.proofs.Common.{zero, suc}
use Rattle.fp_eqs.specs.declared.start.Start.{Start}
use Rattle.fp_eqs.specs.declared.start.Start.TheVariants.{Always, Triggered, Lazy}
use Rattle.fp_eqs.specs.Equations.{Equations, IsIn}
use Rattle.fp_eqs.specs.Solution.{solution}

-- whether some number below a limit passes a test
abbrev pub any_below : (ℕ → Bool) → ℕ → Bool
any_below f zero = false
any_below f (suc n) = any_below f n || f n

-- whether a task runs, where one of the places that it makes is wanted or none is
abbrev pub runs : Start → Bool → Bool
runs Always wanted = true
runs (Triggered p) wanted = true
runs Lazy wanted = wanted

-- whether a task runs once these places are demanded
abbrev pub is_started : Equations → (ℕ → Bool) → ℕ → Bool
is_started e d t = runs (e.task t).start (any_below (λ p. (e.task t).makes p && d p) e.places)

-- a round adds what the started tasks use at the solution
abbrev pub demand_round : Equations → (ℕ → Bool) → ℕ → Bool
demand_round e d p = d p || any_below (λ t. is_started e d t && (e.task t).uses (solution e) p) e.tasks

abbrev pub demand_after : Equations → ℕ → ℕ → Bool
demand_after e zero p = e.shown p
demand_after e (suc k) p = demand_round e (demand_after e k) p

unfoldable pub demand : Equations → ℕ → Bool
demand e p = demand_after e (e.places + 1) p

-- it holds the shown places and what its started tasks use at the solution, and is within every set that does so
pub record IsLeastDemand (e : Equations) (d : ℕ → Bool) : Type 0 where
  pub holds_shown : IsIn e.shown d
  pub supplied : (t : ℕ) → t < e.tasks → IsTrue (is_started e d t) → IsIn ((e.task t).uses (solution e)) d
  pub least : (c : ℕ → Bool) → IsIn e.shown c → ((t : ℕ) → t < e.tasks → IsTrue (is_started e c t) → IsIn ((e.task t).uses (solution e)) c) → IsIn d c
