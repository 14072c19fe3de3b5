-- What stands while the demanded places are sought.
use Rattle.std.specs.Prelude.{◌≡◌, ◌==◌, ◌<◌, ◌≤◌, ◌+◌, ℕ, Bool, not, List, IsTrue, length, slice_index}
use Rattle.std.specs.List.{list_any}
use Rattle.fp_eqs.specs.declared.plain.needs.Needs.{Needs}
use Rattle.fp_eqs.specs.Demand.{demand}
use Rattle.fp_eqs.specs.Equations.{Equations, IsIn, count_below}
use Rattle.fp_eqs.specs.Solution.{solution}
use Rattle.fp_eqs.specs.Solved.{flag_at}

abbrev pub is_listed : List ℕ → ℕ → Bool
is_listed places p = list_any (λ q. q == p) places

-- the places found are those wanted, and no place was found twice
pub record AreFound (wanted : List Bool) (found : List ℕ) : Type 0 where
  pub listed : (p : ℕ) → flag_at wanted p ≡ is_listed found p
  pub few : count_below (λ p. not (flag_at wanted p)) (length wanted) + length found ≤ length wanted

-- the list goes on behind these places
abbrev pub GoesOn : List ℕ → List ℕ → Type 0
GoesOn places more = (i : ℕ) → i < length places → (i < length more) × (slice_index more i ≡ slice_index places i)

-- only demanded places are wanted, and so are all those that started tasks use
pub record AreNeeds (e : Equations) (s : Needs) : Type 0 where
  pub flag_count : length s.wanted.items ≡ e.places
  pub start_count : length s.started.items ≡ e.tasks
  pub found : AreFound s.wanted.items s.found.items
  pub needed : IsIn (flag_at s.wanted.items) (demand e)
  pub supplied : (t : ℕ) → IsTrue (flag_at s.started.items t) → IsIn ((e.task t).uses (solution e)) (flag_at s.wanted.items)

-- no fewer places are wanted and no fewer tasks started later, and the places found go on behind the same ones
pub record AreLater (s more : Needs) : Type 0 where
  pub wanted : IsIn (flag_at s.wanted.items) (flag_at more.wanted.items)
  pub started : IsIn (flag_at s.started.items) (flag_at more.started.items)
  pub goes_on : GoesOn s.found.items more.found.items
