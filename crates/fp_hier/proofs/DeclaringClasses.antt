-- The class that declares a method or a field.
use Rattle.std.proofs.Common.{◌≡◌, ℕ, suc, zero, ◌+◌, ◌<◌, ◌≤◌, true, false, nat_lt, List, [], ◌∷◌, length, get_or, take, flat_map, refl, ap, ◌∙◌, arith, length-append, Some}
use Rattle.std.specs.Prelude.{position}
use Rattle.std.specs.List.{position_or_len, range_with_len}
use Rattle.std.proofs.lemmas.List.FromFn.{get_or-range_with_len, length-range_with_len}
use Rattle.std.proofs.lemmas.List.Sums.{position_or_len_is}
use Rattle.std.proofs.lemmas.Bool.{le-ltb, lt-ltb}
use Rattle.fp_model.specs.declared.class.Class.{Class}
use Rattle.fp_model.specs.ClassSet.{first_field_of, first_method_of}
use Rattle.fp_facts.specs.Resolution.{class_of_field, class_of_method}

-- more lists have no fewer members
pub before-more : {X Y : Type 0} (f : X → List Y) (xs : List X) (i j : ℕ) → i ≤ j → length (flat_map f (take i xs)) ≤ length (flat_map f (take j xs))
before-more f xs zero j le = omega arith
before-more f [] (suc i) zero le = absurd (omega arith)
before-more f [] (suc i) (suc j) le = omega arith
before-more f (x ∷ xs) (suc i) zero le = absurd (omega arith)
before-more f (x ∷ xs) (suc i) (suc j) le =
    let rest = before-more f xs i j (omega arith) in
    let here = length-append (f x) (flat_map f (take i xs)) in
    let there = length-append (f x) (flat_map f (take j xs)) in
    omega (arith, rest, here, there)

-- a number of what some lists have in all stands in the list at whose first number, or behind it, and before that of the next one it is
pub placed : {X Y : Type 0} (f : X → List Y) (xs : List X) (id k : ℕ) → k < length xs → length (flat_map f (take k xs)) ≤ id → id < length (flat_map f (take (k + 1) xs)) →
    position (λ i. nat_lt id (length (flat_map f (take (i + 1) xs)))) (range_with_len 0 (length xs)) ≡ Some k
placed f xs id k known from to =
    let n = length xs in
    let p = λ (i : ℕ). nat_lt id (length (flat_map f (take (i + 1) xs))) in
    let all : length (range_with_len 0 n) ≡ n = length-range_with_len 0 n in
    let at : (i : ℕ) → i < n → get_or (range_with_len 0 n) i 0 ≡ i = λ i lt. get_or-range_with_len 0 n i 0 lt ∙ omega arith in
    let fails : (i : ℕ) → i < k → p (get_or (range_with_len 0 n) i 0) ≡ false =
    λ i lt. ap p (at i (omega arith)) ∙ le-ltb id (length (flat_map f (take (i + 1) xs))) (omega (arith, before-more f xs (i + 1) k (omega arith), from)) in
    let passes : k < length (range_with_len 0 n) → p (get_or (range_with_len 0 n) k 0) ≡ true = λ lt. ap p (at k known) ∙ lt-ltb id (length (flat_map f (take (k + 1) xs))) to in
    let place : position_or_len p (range_with_len 0 n) ≡ k = position_or_len_is p (range_with_len 0 n) k 0 (omega (arith, all)) fails passes in
    let told : nat_lt k n ≡ true = lt-ltb k n known in
    rw (place, all, told) refl

pub declaring : (classes : List Class) (id k : ℕ) → k < length classes → first_method_of classes k ≤ id → id < first_method_of classes (k + 1) → class_of_method classes id ≡ Some k
declaring classes id k known from to = placed (λ (c : Class). c.methods) classes id k known from to

pub declaring-field : (classes : List Class) (id k : ℕ) → k < length classes → first_field_of classes k ≤ id → id < first_field_of classes (k + 1) → class_of_field classes id ≡ Some k
declaring-field classes id k known from to = placed (λ (c : Class). c.fields) classes id k known from to
