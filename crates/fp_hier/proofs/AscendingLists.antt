-- Ascending lists of numbers: two of them with the same members are one.
use Rattle.std.proofs.Common.{◌≡◌, ◌+◌, ◌<◌, ◌==◌, nat_lt, ◌&&◌, ℕ, Bool, true, false, List, [], ◌∷◌, filter, refl, ap, sym, ◌∙◌, arith}
use Rattle.std.specs.Cmp.{unsigned_tied}
use Rattle.std.specs.List.{Contains, list_any, range_with_len}
use Rattle.std.specs.List.Sorted.{IsStrictlyIncreasing}
use Rattle.std.specs.Ordering.{eq_by_cmp, nat_cmp}
use Rattle.std.proofs.lemmas.Bool.{eq-eqb, eqb-true, lt-ltb, ltb-true}
use Rattle.std.proofs.lemmas.Cmp.{nat_cmp_total}
use Rattle.std.proofs.lemmas.List.Folds.{Any-from_list_any, list_any-from_Any}
use Rattle.std.proofs.lemmas.List.FromFn.{get_or-range_with_len, length-range_with_len}
use Rattle.std.proofs.lemmas.List.Kept.{IsStrictlyIncreasing-filter}
use Rattle.std.proofs.lemmas.Map.Keys.{sorted_from_strictly_increasing}
use Rattle.std.proofs.lemmas.Map.Views.{any-filter_same}
use Rattle.std.proofs.lemmas.Map.Lookups.{btree_set_from_contains, exact_unsigned}
use Rattle.fp_facts.specs.Hierarchy.{has_number}

-- ---- tests that agree

-- two tests of which each passes where the other does agree
pub same-test : (a b : Bool) → (a ≡ true → b ≡ true) → (b ≡ true → a ≡ true) → a ≡ b
same-test true b there back = sym (there refl)
same-test false true there back = back refl
same-test false false there back = refl

pub any-agree : {X : Type 0} (p q : X → Bool) (xs : List X) → ((x : X) → p x ≡ q x) → list_any p xs ≡ list_any q xs
any-agree p q [] same = refl
any-agree p q (x ∷ xs) same = let here = same x in let rest = any-agree p q xs same in cc

pub filter-agree : {X : Type 0} (p q : X → Bool) (xs : List X) → ((x : X) → p x ≡ q x) → filter p xs ≡ filter q xs
filter-agree p q [] same = refl
filter-agree p q (x ∷ xs) same = let here = same x in let rest = filter-agree p q xs same in cc

-- ---- members

pub eqb-flip : (a b : ℕ) → (a == b) ≡ (b == a)
eqb-flip a b = same-test (a == b) (b == a) (λ t. eq-eqb b a (sym (eqb-true a b t))) (λ t. eq-eqb a b (sym (eqb-true b a t)))

as-key : (n : ℕ) (xs : List ℕ) → list_any (eq_by_cmp nat_cmp n) xs ≡ has_number xs n
as-key n xs = any-agree (eq_by_cmp nat_cmp n) (λ m. m == n) xs (λ m. unsigned_tied n m ∙ eqb-flip n m)

pub has-from_contains : (xs : List ℕ) (n : ℕ) → Contains xs n → has_number xs n ≡ true
has-from_contains xs n at = list_any-from_Any (λ m. m == n) xs (at.0, n, at.1, at.2, eq-eqb n n refl)

pub contains-from_has : (xs : List ℕ) (n : ℕ) → has_number xs n ≡ true → Contains xs n
contains-from_has xs n h =
    let found = Any-from_list_any (λ m. m == n) xs h in
    let same : found.1 ≡ n = eqb-true found.1 n found.4 in
    let at : Contains xs found.1 = (found.0, found.2, found.3) in
    rw same at at

-- two ascending lists with the same members are one
pub same-members : (xs ys : List ℕ) → IsStrictlyIncreasing xs → IsStrictlyIncreasing ys → ((n : ℕ) → has_number xs n ≡ has_number ys n) → xs ≡ ys
same-members xs ys up vp same =
    btree_set_from_contains nat_cmp_total (record { keys = xs }) (record { keys = ys }) (sorted_from_strictly_increasing xs up) (sorted_from_strictly_increasing ys vp)
    (λ n. as-key n xs ∙ same n ∙ sym (as-key n ys)) exact_unsigned

-- ---- ranges

pub range-rises : (a n : ℕ) → IsStrictlyIncreasing (range_with_len a n)
range-rises a n = λ k lt.
    let more : k + 1 < n = omega (arith, length-range_with_len a n) in
    let less : k < n = omega arith in
    omega (arith, get_or-range_with_len a n k 0 less, get_or-range_with_len a n (k + 1) 0 more)

-- the members of a filter are those that pass
pub has-filter : (p : ℕ → Bool) (xs : List ℕ) (n : ℕ) → has_number (filter p xs) n ≡ (p n && has_number xs n)
has-filter p xs n = any-filter_same (λ m. m == n) p (p n) (λ m h. ap p (eqb-true m n h)) xs

-- the numbers of a range from 0
pub has-range : (bound n : ℕ) → has_number (range_with_len 0 bound) n ≡ nat_lt n bound
has-range bound n =
    same-test _ _
    (λ h.
    let at = contains-from_has (range_with_len 0 bound) n h in
    let within : at.0 < bound = omega (arith, at.1, length-range_with_len 0 bound) in
    lt-ltb n bound (omega (arith, within, at.2, get_or-range_with_len 0 bound at.0 n within)))
    (λ h.
    let within : n < bound = ltb-true n bound h in
    has-from_contains (range_with_len 0 bound) n (n, omega (arith, within, length-range_with_len 0 bound), omega (arith, get_or-range_with_len 0 bound n n within)))

-- the members of a filter of a range
pub has-filter_range : (p : ℕ → Bool) (bound n : ℕ) → has_number (filter p (range_with_len 0 bound)) n ≡ (p n && nat_lt n bound)
has-filter_range p bound n = has-filter p (range_with_len 0 bound) n ∙ ap (λ b. p n && b) (has-range bound n)

pub filter-rises : (p : ℕ → Bool) (bound : ℕ) → IsStrictlyIncreasing (filter p (range_with_len 0 bound))
filter-rises p bound = IsStrictlyIncreasing-filter p (range_with_len 0 bound) (range-rises 0 bound)

-- an ascending list of those below a bound that pass a test is the filter
pub is-filter : (p : ℕ → Bool) (bound : ℕ) (xs : List ℕ) → IsStrictlyIncreasing xs → ((n : ℕ) → has_number xs n ≡ (p n && nat_lt n bound)) → xs ≡ filter p (range_with_len 0 bound)
is-filter p bound xs up members =
    same-members xs (filter p (range_with_len 0 bound)) up (filter-rises p bound) (λ n. members n ∙ sym (has-filter_range p bound n))
