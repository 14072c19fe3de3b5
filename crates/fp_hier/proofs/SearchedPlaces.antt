-- The places of numbers in an ascending list, as a binary search finds them.
use Rattle.std.proofs.Common.{◌≡◌, ◌+◌, ◌<◌, ◌≤◌, ◌==◌, nat_lt, ◌&&◌, ◌||◌, ℕ, Bool, true, false, cond, List, [], ◌∷◌, ◌++◌, Option, Some, None, Result, Ok, Err, MatchResult, is_ok, length, get_or, take, refl, ap, sym, ◌∙◌, arith, inl, inr}
use Rattle.std.specs.List.{flat_map, position_or_len}
use Rattle.std.specs.List.Sorted.{IsStrictlyIncreasing}
use Rattle.std.specs.Option.{option_to_list}
use Rattle.std.proofs.lemmas.Bool.{cases_lt, eq-eqb, eqb-true, ne_eqb, lt-ltb, le-ltb, false_from_ne_true, cond-true, cond-false, false≢true, or_cases, or_left, and_from, and_parts, and_right, ltb-true}
use Rattle.std.proofs.lemmas.Grind.{flat_map-append, get_or_default_zero}
use Rattle.std.proofs.lemmas.List.{take_more, append-nil}
use Rattle.std.proofs.lemmas.List.Folds.{list_any-append}
use Rattle.std.proofs.lemmas.List.Quantifiers.{position-Some}
use Rattle.std.proofs.lemmas.List.Sums.{position_or_len_is}
use Rattle.std.proofs.lemmas.Map.Keys.{below_from_sorted, sorted_from_strictly_increasing}
use Rattle.fp_facts.specs.Hierarchy.{has_number}
use Rattle.fp_hier.specs.Bits.{place_in}
use Rattle.fp_hier.proofs.AscendingLists.{contains-from_has, has-from_contains, same-test}

-- what a binary search finds
abbrev pub IsFound : List ℕ → ℕ → Result ℕ ℕ → Type 0
IsFound xs x r =
    MatchResult r (λ i. (i < length xs) × (get_or xs i 0 ≡ x))
    (λ i. (i ≤ length xs) × ((k : ℕ) → k < i → get_or xs k 0 < x) × ((k : ℕ) → i ≤ k → k < length xs → x < get_or xs k 0))

pub rises-between : (xs : List ℕ) (i j : ℕ) → IsStrictlyIncreasing xs → i < j → j < length xs → get_or xs i 0 < get_or xs j 0
rises-between xs i j up less within = below_from_sorted xs i j 0 (sorted_from_strictly_increasing xs up) less within

pub not_fall : (xs : List ℕ) → IsStrictlyIncreasing xs → (i j : ℕ) → i ≤ j → j < length xs → get_or xs i 0 ≤ get_or xs j 0
not_fall xs up i j le within =
    elim (cases_lt i j) [
      | inl less ↦ omega (arith, rises-between xs i j up less within)
      | inr same ↦ let is : i ≡ j = omega arith in rw is (omega arith)
    ]

place-from_first : (xs : List ℕ) (x i : ℕ) → position_or_len (λ n. n == x) xs ≡ i → place_in xs x ≡ cond (nat_lt i (length xs)) (Some i) None
place-from_first xs x i is = ap (λ n. cond (nat_lt n (length xs)) (Some n) None) is

pub place-at : (xs : List ℕ) (x i : ℕ) → IsStrictlyIncreasing xs → i < length xs → get_or xs i 0 ≡ x → place_in xs x ≡ Some i
place-at xs x i up within is =
    let first : position_or_len (λ n. n == x) xs ≡ i =
    position_or_len_is (λ n. n == x) xs i 0 (omega arith) (λ k less. ne_eqb (get_or xs k 0) x (λ same. omega (arith, rises-between xs k i up less within))) (λ _. eq-eqb (get_or xs i 0) x is) in
    place-from_first xs x i first ∙ cond-true (nat_lt i (length xs)) (Some i) None (lt-ltb i (length xs) within)

pub place-none : (xs : List ℕ) (x : ℕ) → ((k : ℕ) → k < length xs → get_or xs k 0 ≡ x → ⊥) → place_in xs x ≡ None
place-none xs x apart =
    let past : length xs ≤ length xs = omega arith in
    let first : position_or_len (λ n. n == x) xs ≡ length xs =
    position_or_len_is (λ n. n == x) xs (length xs) 0 past (λ k less. ne_eqb (get_or xs k 0) x (apart k less)) (λ less. absurd (omega arith)) in
    place-from_first xs x (length xs) first ∙ cond-false (nat_lt (length xs) (length xs)) (Some (length xs)) None (le-ltb (length xs) (length xs) past)

apart-from_found : (xs : List ℕ) (x i : ℕ) → IsFound xs x (Err i) → (k : ℕ) → k < length xs → get_or xs k 0 ≡ x → ⊥
apart-from_found xs x i found k less same =
    elim (cases_lt k i) [
      | inl before ↦ omega (arith, found.1 k before)
      | inr behind ↦ omega (arith, found.2 k behind less)
    ]

pub place-found : (xs : List ℕ) (x : ℕ) (r : Result ℕ ℕ) → IsStrictlyIncreasing xs → IsFound xs x r → MatchResult r (λ i. Some i ≡ place_in xs x) (λ _. None ≡ place_in xs x)
place-found xs x (Ok i) up found = sym (place-at xs x i up found.0 found.1)
place-found xs x (Err i) up found = sym (place-none xs x (apart-from_found xs x i found))

pub has-found : (xs : List ℕ) (x : ℕ) (r : Result ℕ ℕ) → IsFound xs x r → is_ok r ≡ has_number xs x
has-found xs x (Ok i) found =
    sym (has-from_contains xs x (i, found.0, get_or_default_zero xs i x found.0 ∙ found.1))
has-found xs x (Err i) found =
    sym (false_from_ne_true (has_number xs x)
    (λ h. let at = contains-from_has xs x h in apart-from_found xs x i found at.0 at.1 (sym (get_or_default_zero xs at.0 x at.1) ∙ at.2)))

-- ---- the places of several numbers

abbrev pub places_in : List ℕ → List ℕ → List ℕ
places_in targets numbers = flat_map (λ m. option_to_list (place_in targets m)) numbers

has-option : (o : Option ℕ) (n : ℕ) → has_number (option_to_list o) n ≡ true → o ≡ Some n
has-option None n h = absurd (false≢true h)
has-option (Some i) n h =
    elim (or_cases (i == n) false h) [
      | inl same ↦ ap Some (eqb-true i n same)
      | inr none ↦ absurd (false≢true none)
    ]

one-place : (targets : List ℕ) (m n : ℕ) → IsStrictlyIncreasing targets → has_number (option_to_list (place_in targets m)) n ≡ (nat_lt n (length targets) && (m == get_or targets n 0))
one-place targets m n up =
    same-test (has_number (option_to_list (place_in targets m)) n) (nat_lt n (length targets) && (m == get_or targets n 0))
    (λ h.
    let at = position-Some (λ k. k == m) targets n 0 (has-option (place_in targets m) n h) in
    and_from (nat_lt n (length targets)) (m == get_or targets n 0) (lt-ltb n (length targets) at.0) (eq-eqb m (get_or targets n 0) (sym (eqb-true (get_or targets n 0) m at.1))))
    (λ h.
    let known = and_parts (nat_lt n (length targets)) (m == get_or targets n 0) h in
    ap (λ o. has_number (option_to_list o) n)
    (place-at targets m n up (ltb-true n (length targets) known.0) (sym (eqb-true m (get_or targets n 0) known.1)))
    ∙ or_left (n == n) false (eq-eqb n n refl))

and-or : (a b c : Bool) → ((a && b) || (a && c)) ≡ (a && (b || c))
and-or true b c = refl
and-or false b c = refl

pub has-places : (targets ms : List ℕ) (n : ℕ) → IsStrictlyIncreasing targets → has_number (places_in targets ms) n ≡ (nat_lt n (length targets) && has_number ms (get_or targets n 0))
has-places targets [] n up = sym (and_right (nat_lt n (length targets)) false refl)
has-places targets (m ∷ ms) n up =
    list_any-append (λ k. k == n) (option_to_list (place_in targets m)) (places_in targets ms)
    ∙ ap (λ b. b || has_number (places_in targets ms) n) (one-place targets m n up)
    ∙ ap (λ b. (nat_lt n (length targets) && (m == get_or targets n 0)) || b) (has-places targets ms n up)
    ∙ and-or (nat_lt n (length targets)) (m == get_or targets n 0) (has_number ms (get_or targets n 0))

pub places-more : (targets ms : List ℕ) (i : ℕ) → i < length ms → places_in targets (take (i + 1) ms) ≡ places_in targets (take i ms) ++ option_to_list (place_in targets (get_or ms i 0))
places-more targets ms i less =
    let place = λ (m : ℕ). option_to_list (place_in targets m) in
    ap (places_in targets) (take_more ms i 0 less) ∙ flat_map-append place (take i ms) (get_or ms i 0 ∷ [])
    ∙ ap (λ l. places_in targets (take i ms) ++ l) (append-nil (place (get_or ms i 0)))
