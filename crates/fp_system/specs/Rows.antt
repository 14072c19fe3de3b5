-- Why the equations of classes are lawful.
use Rattle.std.specs.Prelude.{◌≡◌, ◌≢◌, ◌==◌, ◌<◌, ◌≤◌, ◌^◌, ℕ, Bool, true, false, not, IsTrue, List, [], ◌∷◌, length, slice_get, bit_and, bit_or, is_some, Option, Some, None, if◌then◌else◌, refl}
use Rattle.std.specs.Option.{option_map_or}
use Rattle.std.proofs.Common.{arith, ap, subst, sym, zero, suc}
use Rattle.std.proofs.lemmas.Bool.{not-true}
use Rattle.std.proofs.lemmas.Nat.{and_le_r}
use Rattle.std.proofs.lemmas.Nat.Bits.{bit_at_or, bit_at_and, same_from_bits}
use Rattle.std.specs.Int.{bit_at}
use Rattle.fp_bits.specs.Words.{IsWithin, within-refl, within-if}
use Rattle.fp_model.specs.ClassSet.{is_number}
use Rattle.fp_eqs.specs.Equations.{AllLawful, IsBelow, IsLawful, count_below}
use Rattle.fp_eqs.specs.Tests.{same-place, place-here, left}
use Rattle.fp_eqs.specs.Counts.{count_below-none, count-listed}
use Rattle.fp_system.specs.declared.declared.ClassTask.{ClassTask}
use Rattle.fp_system.specs.ClassEquations.{declared_task, declared_tasks, parent_bit, no_task}

-- the places of a row are among so many, and it makes the place of its number
pub record IsRowOver (places t : ℕ) (k : ClassTask) : Type 0 where
  pub place : k.place ≡ t
  pub parent : (p : ℕ) → k.parent ≡ Some p → p < places

-- each row is so, and each makes a place
pub record AreRowsOver (places : ℕ) (rows : List ClassTask) : Type 0 where
  pub few : length rows ≤ places
  pub each : (t : ℕ) (k : ClassTask) → slice_get rows t ≡ Some k → IsRowOver places t k

-- masking keeps the order of words
and-grows : (x y z : ℕ) → IsWithin x y → IsWithin (bit_and x z) (bit_and y z)
and-grows x y z h = same_from_bits _ _ (λ i.
    let e : bit_at (bit_or x y) i ≡ bit_at y i = ap (λ v. bit_at v i) h in
    let a = bit_at_or (bit_and x z) (bit_and y z) i in
    let b = bit_at_and x z i in
    let c = bit_at_and y z i in
    let d = bit_at_or x y i in
    omega arith)

-- what a row gives to its place
abbrev pub row_word : Option ℕ → Bool → (ℕ → ℕ) → ℕ
row_word parent alone a = if alone then 1 else parent_bit parent a

row_word-grows : (parent : Option ℕ) (alone : Bool) (a b : ℕ → ℕ) → IsBelow a b → IsWithin (row_word parent alone a) (row_word parent alone b)
row_word-grows parent true a b h = within-refl 1
row_word-grows None false a b h = within-refl 0
row_word-grows (Some p) false a b h = and-grows (a p) (b p) 1 (h p)

row_word-depends : (parent : Option ℕ) (alone : Bool) (a b : ℕ → ℕ) → ((p : ℕ) → IsTrue (is_number p parent) → a p ≡ b p) → row_word parent alone a ≡ row_word parent alone b
row_word-depends parent true a b h = refl
row_word-depends None false a b h = refl
row_word-depends (Some p) false a b h = ap (λ v. bit_and v 1) (h p (place-here p))

row_word-fits : (parent : Option ℕ) (alone : Bool) (a : ℕ → ℕ) → row_word parent alone a < 2 ^ 64
row_word-fits parent true a = omega arith
row_word-fits None false a = omega arith
row_word-fits (Some p) false a = omega (arith, and_le_r (a p) 1)

is_number-is : (parent : Option ℕ) (p : ℕ) → IsTrue (is_number p parent) → parent ≡ Some p
is_number-is None p h = cc
is_number-is (Some q) p h = ap Some (same-place q p h)

number-few : (parent : Option ℕ) (n : ℕ) → count_below (λ p. is_number p parent) n ≤ (if is_some parent then 1 else 0)
number-few None n = omega (arith, count_below-none (λ p. false) n (λ p _. refl))
number-few (Some q) n = count-listed (λ p. q == p) (q ∷ []) n (λ p h. left (q == p) false h)

some-if : (b : Bool) (x : ℕ) → (if b then x else 0) ≢ 0 → IsTrue b
some-if true x h = refl
some-if false x h = absurd (h refl)

some-test : (n : ℕ) → IsTrue (not (n == 0)) → n ≢ 0
some-test n h e = let zero_here : (n == 0) ≡ true = rw e refl in let other = not-true (n == 0) h in cc

fits-if : (b : Bool) (x : ℕ) → x < 2 ^ 64 → (if b then x else 0) < 2 ^ 64
fits-if true x h = h
fits-if false x h = omega arith

give-few : (to n : ℕ) (f : ℕ → ℕ) → ((p : ℕ) → f p ≢ 0 → IsTrue (to == p)) → count_below (λ p. not (f p == 0)) n ≤ 1
give-few to n f h = count-listed (λ p. not (f p == 0)) (to ∷ []) n (λ p k. left (to == p) false (h p (some-test (f p) k)))

pub row_lawful : (places : ℕ) (k : ClassTask) → k.place < places → ((p : ℕ) → k.parent ≡ Some p → p < places) → IsLawful places (declared_task k)
row_lawful places k within parent = record {
  uses_grow = λ a b _ p h. h;
  out_grows = λ a b below p. within-if (k.place == p) (row_word k.parent k.is_open a) (row_word k.parent k.is_open b) (row_word-grows k.parent k.is_open a b below);
  uses_depend = λ a b _ p. refl;
  out_depends = λ a b same p. ap (λ v. if k.place == p then v else 0) (row_word-depends k.parent k.is_open a b same);
  gives_made = λ a p h. some-if (k.place == p) (row_word k.parent k.is_open a) h;
  makes_places = λ p h. subst (λ q. q < places) (same-place k.place p h) within;
  uses_places = λ a p h. parent p (is_number-is k.parent p h);
  uses_few = λ a. number-few k.parent places;
  gives_few = λ a. give-few k.place places (λ p. if k.place == p then row_word k.parent k.is_open a else 0) (λ p h. some-if (k.place == p) (row_word k.parent k.is_open a) h);
  out_fits = λ a _ p. fits-if (k.place == p) (row_word k.parent k.is_open a) (row_word-fits k.parent k.is_open a);
  waits = λ q a h. cc;
}

-- the row of a number
pub record HasRow (rows : List ClassTask) (t : ℕ) : Type 0 where
  pub row : ClassTask
  pub at : slice_get rows t ≡ Some row

pub has_row : (rows : List ClassTask) (t : ℕ) → t < length rows → HasRow rows t
has_row [] t h = elim h [ ]
has_row (k ∷ rows) zero h = record { row = k; at = refl }
has_row (k ∷ rows) (suc t) h = let r = has_row rows t (omega arith) in record { row = r.row; at = r.at }

pub rows_lawful : (places : ℕ) (rows : List ClassTask) → AreRowsOver places rows → AllLawful places (declared_tasks rows)
rows_lawful places rows over t h =
    let r = has_row rows t h in
    let row = over.each t r.row r.at in
    let P : Option ClassTask → Type 0 = λ o. IsLawful places (option_map_or declared_task o no_task) in
    subst P (sym r.at) (row_lawful places r.row (omega (arith, row.place, over.few)) row.parent)
