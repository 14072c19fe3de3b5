-- How rows are joined, compared and counted word after word.
use Rattle.std.proofs.Common.{◌≡◌, ◌≢◌, ◌<◌, ◌≤◌, ◌+◌, ◌^◌, Fits, w64, All, ℕ, List, [], ◌∷◌, Bool, true, false, bit_or, count_ones, sum_by, length, take, set, get_or, refl, sym, ap, subst, ◌∙◌, arith, zero, suc, add-one}
use Rattle.std.proofs.lemmas.Nat.{ones-le}
use Rattle.std.proofs.lemmas.List.{get_or-set_same, set-get_or, get_or_default}
use Rattle.std.proofs.lemmas.List.Sums.{sum_by-le, sum_by_more_le}
use Rattle.fp_bits.specs.Words.{within-refl}
use Rattle.fp_bits.specs.Rows.{joined_rows, IsRowWithin, joined_rows-nil, joined_rows-idem, joined_rows-grows, row_within-antisym, within-joined_rows_left}

-- the first words `ys` of a row have been joined to `old`, which is `new` now
pub record JoinsSoFar (old ys new : List ℕ) (changed : Bool) : Type 0 where
  pub joined : new ≡ joined_rows old ys
  pub same : changed ≡ false → new ≡ old
  pub differs : changed ≡ true → new ≡ old → ⊥

pub joins-none : (old : List ℕ) → JoinsSoFar old [] old false
joins-none old = record { joined = sym (joined_rows-nil old); same = λ _. refl; differs = λ h. cc }

pub joined_rows-take_more : (xs ys : List ℕ) (i : ℕ) → i < length xs → i < length ys →
    set (joined_rows xs (take i ys)) i (bit_or (get_or (joined_rows xs (take i ys)) i 0) (get_or ys i 0)) ≡ joined_rows xs (take (suc i) ys)
joined_rows-take_more [] ys i h k = elim h [ ]
joined_rows-take_more (x ∷ xs) [] i h k = elim k [ ]
joined_rows-take_more (x ∷ xs) (y ∷ ys) zero h k = ap (λ v. bit_or x y ∷ v) (sym (joined_rows-nil xs))
joined_rows-take_more (x ∷ xs) (y ∷ ys) (suc i) h k = ap (λ v. bit_or x y ∷ v) (joined_rows-take_more xs ys i (omega arith) (omega arith))

take-within-more : (ys : List ℕ) (i : ℕ) → IsRowWithin (take i ys) (take (suc i) ys)
take-within-more ys zero = refl
take-within-more [] (suc i) = refl
take-within-more (y ∷ ys) (suc i) = let first : bit_or y y ≡ y = within-refl y in let rest = take-within-more ys i in cc

-- what does not change a row in the end did not change it before
back : (old ys : List ℕ) (i : ℕ) → joined_rows old (take (suc i) ys) ≡ old → joined_rows old (take i ys) ≡ old
back old ys i h =
    let below : IsRowWithin (joined_rows old (take i ys)) old =
    subst (λ v. IsRowWithin (joined_rows old (take i ys)) v) h (joined_rows-grows old (take i ys) old (take (suc i) ys) (joined_rows-idem old) (take-within-more ys i)) in
    sym (row_within-antisym old (joined_rows old (take i ys)) (within-joined_rows_left old (take i ys)) below)

module _ (old ys now : List ℕ) (changed : Bool) (i : ℕ) (in_old : i < length old) (in_now : i < length now) (in_ys : i < length ys)
    (so_far : JoinsSoFar old (take i ys) now changed) where
  joined_more : set now i (bit_or (get_or now i 0) (get_or ys i 0)) ≡ joined_rows old (take (i + 1) ys)
  joined_more =
      rw add-one (ap (λ v. set v i (bit_or (get_or v i 0) (get_or ys i 0))) so_far.joined ∙ joined_rows-take_more old ys i in_old in_ys)

  pub joins-changed : bit_or (get_or now i 0) (get_or ys i 0) ≢ get_or now i 0 → JoinsSoFar old (take (i + 1) ys) (set now i (bit_or (get_or now i 0) (get_or ys i 0))) true
  joins-changed other = record {
    joined = joined_more;
    same = λ h. cc;
    differs = λ _ h.
        let was : now ≡ old = so_far.joined ∙ back old ys i (rw add-one at (sym joined_more ∙ h)) in
        other (sym (get_or-set_same now i (bit_or (get_or now i 0) (get_or ys i 0)) 0 in_now) ∙ ap (λ v. get_or v i 0) (h ∙ sym was));
  }

  pub joins-kept : bit_or (get_or now i 0) (get_or ys i 0) ≡ get_or now i 0 → JoinsSoFar old (take (i + 1) ys) (set now i (bit_or (get_or now i 0) (get_or ys i 0))) changed
  joins-kept e =
      let kept : set now i (bit_or (get_or now i 0) (get_or ys i 0)) ≡ now = ap (λ v. set now i v) e ∙ set-get_or now i 0 in
      record {
        joined = joined_more;
        same = λ f. kept ∙ so_far.same f;
        differs = λ t h. so_far.differs t (sym kept ∙ h);
      }

-- fewer than 2 ^ 32 words have few bits
pub few-bits : (xs : List ℕ) (i : ℕ) → ((k : ℕ) → Fits w64 (get_or xs k 0)) → i < length xs → length xs < 2 ^ 32 → Fits w64 (sum_by count_ones (take i xs) + count_ones (get_or xs i 0))
few-bits xs i fits h few =
    let word_fits : (k : ℕ) → get_or xs k 0 < 2 ^ 64 = λ k. omega (arith, fits k) in
    let each : All (λ x. count_ones x ≤ 64) xs = λ k d lt. ones-le 64 (get_or xs k d) (subst (λ v. v < 2 ^ 64) (get_or_default xs k 0 d lt) (word_fits k)) in
    omega (arith, sum_by_more_le count_ones xs i 0 h, sum_by-le count_ones 64 xs each)
