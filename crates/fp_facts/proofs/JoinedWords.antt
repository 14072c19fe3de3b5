-- The join of lists of words, word by word, and their heights.
use Rattle.std.proofs.Common.{◌≡◌, ◌≤◌, ◌*◌, true, List, [], ◌∷◌, length, refl, ap, arith, suc}
use Rattle.std.specs.List.{list_all}
use Rattle.std.proofs.lemmas.Bool.{and_parts, and_from}
use Rattle.std.proofs.lemmas.List.Sums.{sum_by-cons}
use Rattle.fp_facts.specs.Lattices.{Lattice, IsLattice}
use Rattle.fp_facts.specs.Frames.{join_words, words_height}

module _ {W : Type 0} (w : Lattice W) (laws : IsLattice w) where
  pub length-join_words : (xs ys : List W) → length xs ≡ length ys → length (join_words w.join xs ys) ≡ length ys
  length-join_words [] ys h = refl
  length-join_words (x ∷ xs) [] h = h
  length-join_words (x ∷ xs) (y ∷ ys) h = let rest : length xs ≡ length ys = omega arith in ap suc (length-join_words xs ys rest)

  pub join_words-assoc : (xs ys zs : List W) → join_words w.join (join_words w.join xs ys) zs ≡ join_words w.join xs (join_words w.join ys zs)
  join_words-assoc [] ys zs = refl
  join_words-assoc (x ∷ xs) [] zs = refl
  join_words-assoc (x ∷ xs) (y ∷ ys) [] = refl
  join_words-assoc (x ∷ xs) (y ∷ ys) (z ∷ zs) =
      let first = laws.associative x y z in let rest = join_words-assoc xs ys zs in cc

  pub join_words-comm : (xs ys : List W) → join_words w.join xs ys ≡ join_words w.join ys xs
  join_words-comm [] [] = refl
  join_words-comm [] (y ∷ ys) = refl
  join_words-comm (x ∷ xs) [] = refl
  join_words-comm (x ∷ xs) (y ∷ ys) = let first = laws.commutative x y in let rest = join_words-comm xs ys in cc

  pub join_words-idem : (xs : List W) → join_words w.join xs xs ≡ xs
  join_words-idem [] = refl
  join_words-idem (x ∷ xs) = let first = laws.idempotent x in let rest = join_words-idem xs in cc

  pub join_words-fit : (xs ys : List W) → list_all w.fits xs ≡ true → list_all w.fits ys ≡ true → list_all w.fits (join_words w.join xs ys) ≡ true
  join_words-fit [] ys h k = k
  join_words-fit (x ∷ xs) [] h k = h
  join_words-fit (x ∷ xs) (y ∷ ys) h k =
      let left = and_parts (w.fits x) (list_all w.fits xs) h in
      let right = and_parts (w.fits y) (list_all w.fits ys) k in
      and_from (w.fits (w.join x y)) (list_all w.fits (join_words w.join xs ys)) (laws.fits_join x y left.0 right.0) (join_words-fit xs ys left.1 right.1)

  pub words_height-most : (xs : List W) → list_all w.fits xs ≡ true → words_height w xs ≤ w.most * length xs
  words_height-most [] h = omega arith
  words_height-most (x ∷ xs) h =
      let known = and_parts (w.fits x) (list_all w.fits xs) h in
      omega (arith, sum_by-cons w.height x xs, laws.height_most x known.0, words_height-most xs known.1)

  pub words_height-grows : (xs ys : List W) → length xs ≡ length ys → list_all w.fits xs ≡ true → list_all w.fits ys ≡ true → join_words w.join xs ys ≡ ys → words_height w xs ≤ words_height w ys
  words_height-grows [] [] long h k below = omega arith
  words_height-grows [] (y ∷ ys) long h k below = absurd (omega arith)
  words_height-grows (x ∷ xs) [] long h k below = absurd (omega arith)
  words_height-grows (x ∷ xs) (y ∷ ys) long h k below =
      let left = and_parts (w.fits x) (list_all w.fits xs) h in
      let right = and_parts (w.fits y) (list_all w.fits ys) k in
      let first : w.join x y ≡ y = cc in
      let rest : join_words w.join xs ys ≡ ys = cc in
      let same : length xs ≡ length ys = omega arith in
      omega (arith, sum_by-cons w.height x xs, sum_by-cons w.height y ys, laws.height_grows x y left.0 right.0 first, words_height-grows xs ys same left.1 right.1 rest)

  pub words_height-same : (xs ys : List W) → length xs ≡ length ys → list_all w.fits xs ≡ true → list_all w.fits ys ≡ true → join_words w.join xs ys ≡ ys → words_height w ys ≤ words_height w xs → xs ≡ ys
  words_height-same [] [] long h k below le = refl
  words_height-same [] (y ∷ ys) long h k below le = absurd (omega arith)
  words_height-same (x ∷ xs) [] long h k below le = absurd (omega arith)
  words_height-same (x ∷ xs) (y ∷ ys) long h k below le =
      let left = and_parts (w.fits x) (list_all w.fits xs) h in
      let right = and_parts (w.fits y) (list_all w.fits ys) k in
      let first : w.join x y ≡ y = cc in
      let rest : join_words w.join xs ys ≡ ys = cc in
      let same : length xs ≡ length ys = omega arith in
      let first_grows = laws.height_grows x y left.0 right.0 first in
      let rest_grows = words_height-grows xs ys same left.1 right.1 rest in
      let first_is = laws.height_same x y left.0 right.0 first (omega (arith, sum_by-cons w.height x xs, sum_by-cons w.height y ys)) in
      let rest_is = words_height-same xs ys same left.1 right.1 rest (omega (arith, sum_by-cons w.height x xs, sum_by-cons w.height y ys)) in cc
