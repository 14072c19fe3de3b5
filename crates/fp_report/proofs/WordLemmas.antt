-- The words of so many places, from one on.
use Rattle.std.proofs.Common.{◌≡◌, ℕ, zero, suc, ◌+◌, ◌-◌, ◌<◌, ◌≤◌, List, [], ◌∷◌, length, map, take, drop, slice_index, refl, ap, ◌∙◌, arith, add-one}
use Rattle.std.specs.List.{range_with_len}
use Rattle.std.proofs.lemmas.List.FromFn.{length-map-range_with_len}

from_one : (xs : List ℕ) (i : ℕ) → i < length xs → drop i xs ≡ slice_index xs i ∷ drop (i + 1) xs
from_one [] i lt = absurd (omega (arith, lt))
from_one (x ∷ xs) zero lt = refl
from_one (x ∷ xs) (suc i) lt = rw (add-one (suc i)) (from_one xs i (omega (arith, lt)) ∙ ap (λ n. slice_index xs i ∷ drop n xs) (add-one i))

between : (xs : List ℕ) (n first : ℕ) → first + n ≤ length xs → take n (drop first xs) ≡ map (slice_index xs) (range_with_len first n)
between xs zero first fits = refl
between xs (suc n) first fits =
    ap (λ (ys : List ℕ). take (suc n) ys) (from_one xs first (omega (arith, fits)))
    ∙ ap (λ (ys : List ℕ). slice_index xs first ∷ ys) (between xs n (first + 1) (omega (arith, fits)))

pub words_between : (xs : List ℕ) (first count : ℕ) → first + count ≤ length xs → take (first + count - first) (drop first xs) ≡ map (slice_index xs) (range_with_len first count)
words_between xs first count fits = ap (λ n. take n (drop first xs)) (kept first count) ∙ between xs count first fits
  where
    kept : (a b : ℕ) → a + b - a ≡ b
    kept a b = omega arith

pub length-words : (f : ℕ → ℕ) (first count : ℕ) (words : List ℕ) → words ≡ map f (range_with_len first count) → length words ≡ count
length-words f first count words is = ap (λ (ys : List ℕ). length ys) is ∙ length-map-range_with_len f first count
