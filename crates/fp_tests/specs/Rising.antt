-- A system with a task that reads the place to which it gives, for tests.
use Rattle.std.specs.Prelude.{◌≡◌, ◌≢◌, ◌==◌, ◌<◌, ◌≤◌, ◌^◌, ℕ, Bool, true, false, not, IsTrue, ◌∷◌, [], if◌then◌else◌, refl}
use Rattle.std.proofs.Common.{arith, ap, sym, ◌∙◌, subst, inl, inr}
use Rattle.std.proofs.lemmas.Bool.{cases_eq, eq-eqb, ne_eqb, eqb-true, not-true}
use Rattle.fp_bits.specs.Words.{IsWithin, within-if, within-zero}
use Rattle.fp_eqs.specs.declared.start.Start.TheVariants.{Always}
use Rattle.fp_eqs.specs.Equations.{Task, Equations, IsLawful, IsMonotone, count_below}
use Rattle.fp_eqs.specs.Tests.{same-place, place-here, left}
use Rattle.fp_eqs.specs.Counts.{count-listed}

-- one bit where there is none, and two where there is one
abbrev pub next_bits : ℕ → ℕ
next_bits value = if value == 0 then 1 else 3

-- gives place 0 more than it has
abbrev pub rising_task : Task
rising_task = record {
  start = Always;
  asks = 1;
  gives = 1;
  makes = λ p. 0 == p;
  uses = λ a p. 0 == p;
  out = λ a p. if 0 == p then next_bits (a 0) else 0;
}

-- one place, which is shown
abbrev pub rising : Equations
rising = record {
  places = 1;
  tasks = 1;
  task = λ t. rising_task;
  fixed = λ p. 0;
  shown = λ p. p == 0;
}

next-grows : (x y : ℕ) → IsWithin x y → IsWithin (next_bits x) (next_bits y)
next-grows x y h = elim (cases_eq x 0) [
  | inl none ↦ rw (eq-eqb x 0 none) (one-within (y == 0))
  | inr some ↦ rw (ne_eqb x 0 some, ne_eqb y 0 (λ e. some (within-zero x (subst (IsWithin x) e h)))) refl
]
  where
    one-within : (b : Bool) → IsWithin 1 (if b then 1 else 3)
    one-within true = refl
    one-within false = refl

next-fits : (b : Bool) → (if b then 1 else 3) < 2 ^ 64
next-fits true = omega arith
next-fits false = omega arith

made : (b : Bool) (x : ℕ) → (if b then x else 0) ≢ 0 → IsTrue b
made true x h = refl
made false x h = absurd (h refl)

fits-if : (b : Bool) (x : ℕ) → x < 2 ^ 64 → (if b then x else 0) < 2 ^ 64
fits-if true x h = h
fits-if false x h = omega arith

some-test : (n : ℕ) → IsTrue (not (n == 0)) → n ≢ 0
some-test n h e = let zero_here : (n == 0) ≡ true = rw e refl in let other = not-true (n == 0) h in cc

rising_task-lawful : IsLawful 1 rising_task
rising_task-lawful = record {
  uses_grow = λ a b _ p h. h;
  out_grows = λ a b below p. within-if (0 == p) (next_bits (a 0)) (next_bits (b 0)) (next-grows (a 0) (b 0) (below 0));
  uses_depend = λ a b _ p. refl;
  out_depends = λ a b same p. ap (λ v. if 0 == p then next_bits v else 0) (same 0 refl);
  gives_made = λ a p h. made (0 == p) (next_bits (a 0)) h;
  makes_places = λ p h. subst (λ q. q < 1) (same-place 0 p h) (omega arith);
  uses_places = λ a p h. subst (λ q. q < 1) (same-place 0 p h) (omega arith);
  uses_few = λ a. count-listed (λ p. 0 == p) (0 ∷ []) 1 (λ p h. left (0 == p) false h);
  gives_few = λ a. count-listed (λ p. not ((if 0 == p then next_bits (a 0) else 0) == 0)) (0 ∷ []) 1 (λ p h. left (0 == p) false (made (0 == p) (next_bits (a 0)) (some-test (if 0 == p then next_bits (a 0) else 0) h)));
  out_fits = λ a _ p. fits-if (0 == p) (next_bits (a 0)) (next-fits (a 0 == 0));
  waits = λ q a h. cc;
}

pub rising-laws : IsMonotone rising
rising-laws = record {
  lawful = λ t _. rising_task-lawful;
  fixed_fits = λ p. omega arith;
  fixed_places = λ p _. refl;
  shown_places = λ p h. let e = eqb-true p 0 h in omega arith;
}
