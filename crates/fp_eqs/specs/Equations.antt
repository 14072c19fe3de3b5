-- A system of monotone equations over numbered places.
use Rattle.std.specs.Prelude.{◌≡◌, ◌≢◌, ◌==◌, ◌<◌, ◌≤◌, ◌+◌, ◌^◌, ℕ, Bool, not, List, IsTrue, if◌then◌else◌}
use Rattle.std.proofs.Common.{zero, suc}
use Rattle.fp_bits.specs.Words.{IsWithin}
use Rattle.fp_eqs.specs.declared.start.Start.{Start}
use Rattle.fp_eqs.specs.declared.start.Start.TheVariants.{Triggered}
use Rattle.fp_eqs.specs.Answers.{asked, Agrees, IsGiven}

-- an assignment has a word for each place, and this one is within that one at each
abbrev pub IsBelow : (ℕ → ℕ) → (ℕ → ℕ) → Type 0
IsBelow a b = (p : ℕ) → IsWithin (a p) (b p)

-- each place of the first set is one of the second
abbrev pub IsIn : (ℕ → Bool) → (ℕ → Bool) → Type 0
IsIn d c = (p : ℕ) → IsTrue (d p) → IsTrue (c p)

abbrev pub IsWords : (ℕ → ℕ) → Type 0
IsWords a = (p : ℕ) → a p < 2 ^ 64

-- how many numbers below a limit pass a test
abbrev pub count_below : (ℕ → Bool) → ℕ → ℕ
count_below f zero = 0
count_below f (suc n) = count_below f n + (if f n then 1 else 0)

-- one task: when it starts, its bounds, the places to which it may give, and its transfer function: the places that
-- it uses at an assignment, and its contributions there
pub record Task : Type 0 where
  pub start : Start
  pub asks : ℕ
  pub gives : ℕ
  pub makes : ℕ → Bool
  pub uses : (ℕ → ℕ) → ℕ → Bool
  pub out : (ℕ → ℕ) → ℕ → ℕ

-- uses and contributions are monotone, depend on the used places alone, stay within the bounds and among the places,
-- and wait for the trigger
pub record IsLawful (places : ℕ) (k : Task) : Type 0 where
  pub uses_grow : (a b : ℕ → ℕ) → IsBelow a b → IsIn (k.uses a) (k.uses b)
  pub out_grows : (a b : ℕ → ℕ) → IsBelow a b → IsBelow (k.out a) (k.out b)
  pub uses_depend : (a b : ℕ → ℕ) → ((p : ℕ) → IsTrue (k.uses a p) → a p ≡ b p) → (p : ℕ) → k.uses a p ≡ k.uses b p
  pub out_depends : (a b : ℕ → ℕ) → ((p : ℕ) → IsTrue (k.uses a p) → a p ≡ b p) → (p : ℕ) → k.out a p ≡ k.out b p
  pub gives_made : (a : ℕ → ℕ) (p : ℕ) → k.out a p ≢ 0 → IsTrue (k.makes p)
  pub makes_places : (p : ℕ) → IsTrue (k.makes p) → p < places
  pub uses_places : (a : ℕ → ℕ) (p : ℕ) → IsTrue (k.uses a p) → p < places
  pub uses_few : (a : ℕ → ℕ) → count_below (k.uses a) places ≤ k.asks
  pub gives_few : (a : ℕ → ℕ) → count_below (λ p. not (k.out a p == 0)) places ≤ k.gives
  pub out_fits : (a : ℕ → ℕ) → IsWords a → IsWords (k.out a)
  pub waits : (q : ℕ) (a : ℕ → ℕ) → k.start ≡ Triggered q → a q ≡ 0 → (p : ℕ) → (k.uses a p ≡ (q == p)) × (k.out a p ≡ 0)

-- the tasks of one analysis
pub record Tasks : Type 0 where
  pub count : ℕ
  pub task : ℕ → Task

abbrev pub AllLawful : ℕ → Tasks → Type 0
AllLawful places x = (t : ℕ) → t < x.count → IsLawful places (x.task t)

-- a system: its places and tasks, the value that each place starts with, and the places that are shown
pub record Equations : Type 0 where
  pub places : ℕ
  pub tasks : ℕ
  pub task : ℕ → Task
  pub fixed : ℕ → ℕ
  pub shown : ℕ → Bool

pub record IsMonotone (e : Equations) : Type 0 where
  pub lawful : (t : ℕ) → t < e.tasks → IsLawful e.places (e.task t)
  pub fixed_fits : IsWords e.fixed
  pub fixed_places : (p : ℕ) → e.places ≤ p → e.fixed p ≡ 0
  pub shown_places : (p : ℕ) → IsTrue (e.shown p) → p < e.places

-- every assignment with these answers makes the task use the place
abbrev pub IsForced : ((ℕ → ℕ) → ℕ → Bool) → List (ℕ × ℕ) → ℕ → Type 0
IsForced uses es p = (a : ℕ → ℕ) → Agrees a es → IsTrue (uses a p)

-- an asker that allows this may be handed to the task
abbrev pub Serves : (List (ℕ × ℕ) → ℕ → Type 0) → Task → Type 0
Serves allows k = (es : List (ℕ × ℕ)) (p : ℕ) → IsForced k.uses es p → allows es p

-- what an evaluation leaves, at every assignment with these answers: exactly the used places were asked, and exactly
-- the contributions were appended
pub record IsEvaluated (k : Task) (answers before after : List (ℕ × ℕ)) : Type 0 where
  pub asks : (a : ℕ → ℕ) → Agrees a answers → (p : ℕ) → asked answers p ≡ k.uses a p
  pub gives : (a : ℕ → ℕ) → Agrees a answers → IsGiven before after k.gives k.makes (k.out a)
