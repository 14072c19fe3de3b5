-- Numbers that stand in lists.
use Rattle.std.proofs.Common.{◌≡◌, ◌==◌, ◌<◌, ◌≤◌, ◌+◌, ◌&&◌, ◌||◌, ℕ, Bool, true, false, IsTrue, List, [], ◌∷◌, ◌++◌, filter, refl, sym, ap, subst, ◌∙◌, inl, inr, arith, zero, suc}
use Rattle.std.specs.List.{flat_map, list_any, range_with_len}
use Rattle.std.proofs.lemmas.Bool.{cases_eq, eqb-true, eq-eqb}
use Rattle.std.proofs.lemmas.List.Concat.{flat_map-cons}
use Rattle.std.proofs.lemmas.List.Folds.{list_any-append}
use Rattle.std.proofs.lemmas.Map.Views.{any-filter_same}
use Rattle.fp_eqs.specs.Tests.{left, right, either, same-place, place-here}
use Rattle.fp_facts.specs.Hierarchy.{has_number}

pub and-false : (b : Bool) → (b && false) ≡ false
and-false true = refl
and-false false = refl

pub or-none : (b : Bool) → (b || false) ≡ b
or-none true = refl
or-none false = refl

pub has-append : (xs ys : List ℕ) (n : ℕ) → has_number (xs ++ ys) n ≡ (has_number xs n || has_number ys n)
has-append xs ys n = list_any-append (λ (m : ℕ). m == n) xs ys

pub has-flat : {X : Type 0} (f : X → List ℕ) (xs : List X) (n : ℕ) → has_number (flat_map f xs) n ≡ list_any (λ x. has_number (f x) n) xs
has-flat f [] n = refl
has-flat f (x ∷ xs) n =
    ap (λ l. has_number l n) (flat_map-cons f x xs) ∙ has-append (f x) (flat_map f xs) n ∙ ap (λ b. has_number (f x) n || b) (has-flat f xs n)

pub has-filter : (p : ℕ → Bool) (xs : List ℕ) (n : ℕ) → has_number (filter p xs) n ≡ (p n && has_number xs n)
has-filter p xs n = any-filter_same (λ m. m == n) p (p n) (λ m h. ap p (eqb-true m n h)) xs

pub has-range : (a len n : ℕ) → a ≤ n → n < a + len → IsTrue (has_number (range_with_len a len) n)
has-range a zero n from to = absurd (omega (arith, from, to))
has-range a (suc len) n from to =
    elim (cases_eq a n) [
      | inl here ↦ left (a == n) (has_number (range_with_len (a + 1) len) n) (eq-eqb a n here)
      | inr other ↦ right (a == n) (has_number (range_with_len (a + 1) len) n) (has-range (a + 1) len n (omega (arith, from, other)) (omega (arith, to)))
    ]

pub any-has : (test : ℕ → Bool) (xs : List ℕ) (n : ℕ) → IsTrue (has_number xs n) → IsTrue (test n) → IsTrue (list_any test xs)
any-has test [] n h t = let wrong : false ≡ true = h in cc
any-has test (x ∷ xs) n h t =
    elim (either (x == n) (has_number xs n) h) [
      | inl here ↦ left (test x) (list_any test xs) (subst (λ m. IsTrue (test m)) (sym (same-place x n here)) t)
      | inr later ↦ right (test x) (list_any test xs) (any-has test xs n later t)
    ]

pub record PassesAmong (test : ℕ → Bool) (xs : List ℕ) : Type 0 where
  pub number : ℕ
  pub listed : IsTrue (has_number xs number)
  pub passes : IsTrue (test number)

pub any-from : (test : ℕ → Bool) (xs : List ℕ) → IsTrue (list_any test xs) → PassesAmong test xs
any-from test [] h = let wrong : false ≡ true = h in cc
any-from test (x ∷ xs) h =
    elim (either (test x) (list_any test xs) h) [
      | inl here ↦ record { number = x; listed = left (x == x) (has_number xs x) (place-here x); passes = here }
      | inr later ↦ (let r = any-from test xs later in record { number = r.number; listed = right (x == r.number) (has_number xs r.number) r.listed; passes = r.passes })
    ]
