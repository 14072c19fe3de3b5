-- The least solution of a system, by whole rounds.
use Rattle.std.specs.Prelude.{◌<◌, ◌+◌, ◌*◌, ℕ, bit_or}
use Rattle.std.proofs.Common.{zero, suc}
use Rattle.fp_eqs.specs.Equations.{Equations, IsBelow}

-- the join of the first n words of a sequence
abbrev pub joined : (ℕ → ℕ) → ℕ → ℕ
joined f zero = 0
joined f (suc n) = bit_or (joined f n) (f n)

-- a round joins every task's contributions at the assignment to it
abbrev pub round : Equations → (ℕ → ℕ) → ℕ → ℕ
round e a p = bit_or (a p) (joined (λ t. (e.task t).out a p) e.tasks)

abbrev pub after_rounds : Equations → ℕ → ℕ → ℕ
after_rounds e zero p = e.fixed p
after_rounds e (suc k) p = round e (after_rounds e k) p

-- what stands after one round per bit of the system and one more
unfoldable pub solution : Equations → ℕ → ℕ
solution e p = after_rounds e (64 * e.places + 1) p

-- it holds what is fixed, is closed under every task, and is within every assignment that does so
pub record IsLeastSolution (e : Equations) (a : ℕ → ℕ) : Type 0 where
  pub holds_fixed : IsBelow e.fixed a
  pub closed : (t : ℕ) → t < e.tasks → IsBelow ((e.task t).out a) a
  pub least : (b : ℕ → ℕ) → IsBelow e.fixed b → ((t : ℕ) → t < e.tasks → IsBelow ((e.task t).out b) b) → IsBelow a b
