-- What solves a system.
use Rattle.std.specs.Prelude.{◌≡◌, ℕ, Bool, false, List, IsTrue, length, slice_index, slice_index_or}
use Rattle.fp_eqs.specs.declared.solved.Solved.{Solved}
use Rattle.fp_eqs.specs.Equations.{Equations, IsBelow}
use Rattle.fp_eqs.specs.Solution.{solution}
use Rattle.fp_eqs.specs.Demand.{demand}

-- whether the place is flagged, and false past the last one
abbrev pub flag_at : List Bool → ℕ → Bool
flag_at flags p = slice_index_or flags p false

-- one item for each place, wanted exactly on demand, with the solution's value at each demanded place and within it
-- elsewhere
pub record IsSolved (e : Equations) (s : Solved) : Type 0 where
  pub value_count : length s.values ≡ e.places
  pub wanted_count : length s.wanted ≡ e.places
  pub wanted : (p : ℕ) → flag_at s.wanted p ≡ demand e p
  pub exact : (p : ℕ) → IsTrue (demand e p) → slice_index s.values p ≡ solution e p
  pub within : IsBelow (slice_index s.values) (solution e)
