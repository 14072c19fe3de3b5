-- Rows of words: order and join are those of words, word by word.
use Rattle.std.specs.Prelude.{◌≡◌, ◌<◌, ℕ, List, [], ◌∷◌, bit_or, length, slice_index, refl}
use Rattle.std.specs.Int.Bits.{or_self, or_zero_r, or_zero_l}
use Rattle.std.proofs.Common.{◌∙◌, sym, ap, arith, zero, suc}
use Rattle.std.proofs.lemmas.Nat.{or_comm}
use Rattle.fp_bits.specs.Words.{IsWithin, or_assoc}

-- the rows joined word by word, where a word that is not there counts as zero
abbrev pub joined_rows : List ℕ → List ℕ → List ℕ
joined_rows [] ys = ys
joined_rows (x ∷ xs) [] = x ∷ xs
joined_rows (x ∷ xs) (y ∷ ys) = bit_or x y ∷ joined_rows xs ys

-- each bit of xs is a bit of ys
abbrev pub IsRowWithin : List ℕ → List ℕ → Type 0
IsRowWithin xs ys = joined_rows xs ys ≡ ys

pub joined_rows-nil : (xs : List ℕ) → joined_rows xs [] ≡ xs
joined_rows-nil [] = refl
joined_rows-nil (x ∷ xs) = refl

-- the place k of the join is the join at the place k
pub slice_index-joined_rows : (xs ys : List ℕ) (k : ℕ) → slice_index (joined_rows xs ys) k ≡ bit_or (slice_index xs k) (slice_index ys k)
slice_index-joined_rows [] ys k = sym (or_zero_l (slice_index ys k))
slice_index-joined_rows (x ∷ xs) [] k = sym (or_zero_r (slice_index (x ∷ xs) k))
slice_index-joined_rows (x ∷ xs) (y ∷ ys) zero = refl
slice_index-joined_rows (x ∷ xs) (y ∷ ys) (suc k) = slice_index-joined_rows xs ys k

pub length-joined_rows : (xs ys : List ℕ) → length xs ≡ length ys → length (joined_rows xs ys) ≡ length ys
length-joined_rows [] ys h = refl
length-joined_rows (x ∷ xs) [] h = h
length-joined_rows (x ∷ xs) (y ∷ ys) h = let rest : length xs ≡ length ys = omega arith in ap suc (length-joined_rows xs ys rest)

pub joined_rows-assoc : (xs ys zs : List ℕ) → joined_rows (joined_rows xs ys) zs ≡ joined_rows xs (joined_rows ys zs)
joined_rows-assoc [] ys zs = refl
joined_rows-assoc (x ∷ xs) [] zs = refl
joined_rows-assoc (x ∷ xs) (y ∷ ys) [] = refl
joined_rows-assoc (x ∷ xs) (y ∷ ys) (z ∷ zs) =
    let first = or_assoc x y z in let rest = joined_rows-assoc xs ys zs in cc

pub joined_rows-comm : (xs ys : List ℕ) → joined_rows xs ys ≡ joined_rows ys xs
joined_rows-comm [] [] = refl
joined_rows-comm [] (y ∷ ys) = refl
joined_rows-comm (x ∷ xs) [] = refl
joined_rows-comm (x ∷ xs) (y ∷ ys) = let first = or_comm x y in let rest = joined_rows-comm xs ys in cc

pub joined_rows-idem : (xs : List ℕ) → joined_rows xs xs ≡ xs
joined_rows-idem [] = refl
joined_rows-idem (x ∷ xs) = let first = or_self x in let rest = joined_rows-idem xs in cc

pub row_within-trans : (xs ys zs : List ℕ) → IsRowWithin xs ys → IsRowWithin ys zs → IsRowWithin xs zs
row_within-trans xs ys zs h k =
    ap (λ v. joined_rows xs v) (sym k) ∙ sym (joined_rows-assoc xs ys zs) ∙ ap (λ v. joined_rows v zs) h ∙ k

pub row_within-antisym : (xs ys : List ℕ) → IsRowWithin xs ys → IsRowWithin ys xs → xs ≡ ys
row_within-antisym xs ys h k = sym k ∙ joined_rows-comm ys xs ∙ h

pub within-joined_rows_left : (xs ys : List ℕ) → IsRowWithin xs (joined_rows xs ys)
within-joined_rows_left xs ys = sym (joined_rows-assoc xs xs ys) ∙ ap (λ v. joined_rows v ys) (joined_rows-idem xs)

pub within-joined_rows_right : (xs ys : List ℕ) → IsRowWithin ys (joined_rows xs ys)
within-joined_rows_right xs ys =
    ap (λ v. joined_rows ys v) (joined_rows-comm xs ys) ∙ within-joined_rows_left ys xs ∙ joined_rows-comm ys xs

pub joined_rows-within : (xs ys zs : List ℕ) → IsRowWithin xs zs → IsRowWithin ys zs → IsRowWithin (joined_rows xs ys) zs
joined_rows-within xs ys zs h k = joined_rows-assoc xs ys zs ∙ ap (λ v. joined_rows xs v) k ∙ h

pub joined_rows-grows : (xs ys vs ws : List ℕ) → IsRowWithin xs vs → IsRowWithin ys ws → IsRowWithin (joined_rows xs ys) (joined_rows vs ws)
joined_rows-grows xs ys vs ws h k =
    joined_rows-within xs ys (joined_rows vs ws) (row_within-trans xs vs (joined_rows vs ws) h (within-joined_rows_left vs ws))
    (row_within-trans ys ws (joined_rows vs ws) k (within-joined_rows_right vs ws))

-- a row is within another exactly where each of its words is
pub row_within-at : (xs ys : List ℕ) → IsRowWithin xs ys → (k : ℕ) → IsWithin (slice_index xs k) (slice_index ys k)
row_within-at xs ys h k = sym (slice_index-joined_rows xs ys k) ∙ ap (λ v. slice_index v k) h

pub row_within-each : (xs ys : List ℕ) → length xs ≡ length ys → ((k : ℕ) → k < length xs → IsWithin (slice_index xs k) (slice_index ys k)) → IsRowWithin xs ys
row_within-each [] ys l h = refl
row_within-each (x ∷ xs) [] l h = absurd (omega arith)
row_within-each (x ∷ xs) (y ∷ ys) l h =
    let same : length xs ≡ length ys = omega arith in
    let first : bit_or x y ≡ y = h 0 (omega arith) in
    let rest = row_within-each xs ys same (λ k lt. h (suc k) (omega arith)) in cc

-- the join of rows is the least row above both, and so associative, commutative, idempotent and monotone
pub record IsRowJoin (join : List ℕ → List ℕ → List ℕ) : Type 0 where
  pub words : (xs ys : List ℕ) (k : ℕ) → slice_index (join xs ys) k ≡ bit_or (slice_index xs k) (slice_index ys k)
  pub above_left : (xs ys : List ℕ) → IsRowWithin xs (join xs ys)
  pub above_right : (xs ys : List ℕ) → IsRowWithin ys (join xs ys)
  pub least : (xs ys zs : List ℕ) → IsRowWithin xs zs → IsRowWithin ys zs → IsRowWithin (join xs ys) zs
  pub assoc : (xs ys zs : List ℕ) → join (join xs ys) zs ≡ join xs (join ys zs)
  pub comm : (xs ys : List ℕ) → join xs ys ≡ join ys xs
  pub idem : (xs : List ℕ) → join xs xs ≡ xs
  pub grows : (xs ys vs ws : List ℕ) → IsRowWithin xs vs → IsRowWithin ys ws → IsRowWithin (join xs ys) (join vs ws)

-- inclusion of rows is a partial order, word by word
pub record IsRowOrder : Type 0 where
  pub reflexive : (xs : List ℕ) → IsRowWithin xs xs
  pub transitive : (xs ys zs : List ℕ) → IsRowWithin xs ys → IsRowWithin ys zs → IsRowWithin xs zs
  pub antisymmetric : (xs ys : List ℕ) → IsRowWithin xs ys → IsRowWithin ys xs → xs ≡ ys
  pub at : (xs ys : List ℕ) → IsRowWithin xs ys → (k : ℕ) → IsWithin (slice_index xs k) (slice_index ys k)
  pub each : (xs ys : List ℕ) → length xs ≡ length ys → ((k : ℕ) → k < length xs → IsWithin (slice_index xs k) (slice_index ys k)) → IsRowWithin xs ys

pub row_join-laws : IsRowJoin joined_rows
row_join-laws = record {
  words = slice_index-joined_rows;
  above_left = within-joined_rows_left;
  above_right = within-joined_rows_right;
  least = joined_rows-within;
  assoc = joined_rows-assoc;
  comm = joined_rows-comm;
  idem = joined_rows-idem;
  grows = joined_rows-grows;
}

pub row_order-laws : IsRowOrder
row_order-laws = record {
  reflexive = joined_rows-idem;
  transitive = row_within-trans;
  antisymmetric = row_within-antisym;
  at = row_within-at;
  each = row_within-each;
}
