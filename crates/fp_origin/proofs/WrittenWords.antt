-- Words written over others, one place after the other.
use Rattle.std.proofs.Common.{◌≡◌, ◌<◌, ◌≤◌, ◌+◌, ◌-◌, ℕ, zero, suc, List, [], ◌∷◌, ◌++◌, length, drop, slice_index_or, ◌==◌, nat_lt, refl, sym, ap, ◌∙◌, arith}
use Rattle.std.proofs.lemmas.Bool.{cond_both, cond-false, ltb-true, ltb-false, ne_eqb}
use Rattle.std.proofs.lemmas.List.{append_assoc, drop_more}
use Rattle.fp_facts.specs.Moves.{written_at}
use Rattle.fp_origin.specs.Groups.{written_word}

none-written : (at : ℕ) (l : List ℕ) → written_at at [] l ≡ l
none-written at [] = refl
none-written at (x ∷ l) = refl

-- before the place
before-written : (n : ℕ) (words : List ℕ) (x : ℕ) (l : List ℕ) → written_at (suc n) words (x ∷ l) ≡ x ∷ written_at n words l
before-written n [] x l = ap (λ m. x ∷ m) (sym (none-written n l))
before-written n (w ∷ words) x l =
    cond-false (suc n == 0) (w ∷ written_at 0 words l) (x ∷ written_at (suc n - 1) (w ∷ words) l) (ne_eqb (suc n) 0 (λ is. omega (arith, is)))
    ∙ ap (λ k. x ∷ written_at k (w ∷ words) l) (let before : suc n - 1 ≡ n = omega arith in before)

-- from it on
from-written : (k : ℕ) (words : List ℕ) (x : ℕ) (l : List ℕ) → written_at 0 (drop k words) (x ∷ l) ≡ slice_index_or words k x ∷ written_at 0 (drop (suc k) words) l
from-written zero [] x l = ap (λ m. x ∷ m) (sym (none-written 0 l))
from-written zero (w ∷ words) x l = refl
from-written (suc k) [] x l = ap (λ m. x ∷ m) (sym (none-written 0 l))
from-written (suc k) (w ∷ words) x l = from-written k words x l

module _ (at place : ℕ) (words locals : List ℕ) (d : ℕ) (k : place < length locals) where
  abbrev old : ℕ
  old = slice_index_or locals place d

  abbrev others : List ℕ
  others = written_at (at - (place + 1)) (drop (place + 1 - at) words) (drop (place + 1) locals)

  kept-place : place < at → written_at (at - place) (drop (place - at) words) (drop place locals) ≡ old ∷ others
  kept-place h =
      let more : at - place ≡ suc (at - (place + 1)) = omega (arith, h) in
      let none : place - at ≡ 0 = omega (arith, h) in
      let still : place + 1 - at ≡ 0 = omega (arith, h) in
      ap (λ n. written_at n (drop (place - at) words) (drop place locals)) more
      ∙ ap (λ n. written_at (suc (at - (place + 1))) (drop n words) (drop place locals)) none
      ∙ ap (λ l. written_at (suc (at - (place + 1))) words l) (drop_more locals place d k)
      ∙ before-written (at - (place + 1)) words old (drop (place + 1) locals)
      ∙ ap (λ n. old ∷ written_at (at - (place + 1)) (drop n words) (drop (place + 1) locals)) (sym still)

  written-place : at ≤ place → written_at (at - place) (drop (place - at) words) (drop place locals) ≡ slice_index_or words (place - at) old ∷ others
  written-place h =
      let none : at - place ≡ 0 = omega (arith, h) in
      let still : at - (place + 1) ≡ 0 = omega (arith, h) in
      let next : place + 1 - at ≡ suc (place - at) = omega (arith, h) in
      ap (λ n. written_at n (drop (place - at) words) (drop place locals)) none
      ∙ ap (λ l. written_at 0 (drop (place - at) words) l) (drop_more locals place d k)
      ∙ from-written (place - at) words old (drop (place + 1) locals)
      ∙ ap (λ n. slice_index_or words (place - at) old ∷ written_at 0 (drop n words) (drop (place + 1) locals)) (sym next)
      ∙ ap (λ n. slice_index_or words (place - at) old ∷ written_at n (drop (place + 1 - at) words) (drop (place + 1) locals)) (sym still)

  next-place : written_at (at - place) (drop (place - at) words) (drop place locals) ≡ written_word at place words old ∷ others
  next-place =
      cond_both (nat_lt place at) old (slice_index_or words (place - at) old) (λ w. written_at (at - place) (drop (place - at) words) (drop place locals) ≡ w ∷ others)
      (λ h. kept-place (ltb-true place at h))
      (λ h. written-place (ltb-false place at h))

-- the loop that writes them, one place on
pub place-written : (at place : ℕ) (words locals all so_far more : List ℕ) (word d : ℕ) → place < length locals
    → all ≡ so_far ++ written_at (at - place) (drop (place - at) words) (drop place locals) → word ≡ written_word at place words (slice_index_or locals place d) → more ≡ so_far ++ word ∷ []
    → all ≡ more ++ written_at (at - (place + 1)) (drop (place + 1 - at) words) (drop (place + 1) locals)
place-written at place words locals all so_far more word d k known is pushed =
    let rest = written_at (at - (place + 1)) (drop (place + 1 - at) words) (drop (place + 1) locals) in
    known
    ∙ ap (λ l. so_far ++ l) (next-place at place words locals d k)
    ∙ ap (λ w. so_far ++ w ∷ rest) (sym is)
    ∙ sym (append_assoc so_far (word ∷ []) rest)
    ∙ ap (λ l. l ++ rest) (sym pushed)
