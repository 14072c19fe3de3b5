-- Words of sorts, one list below another, and what a store makes of them.
use Rattle.std.proofs.Common.{◌≡◌, ◌+◌, ◌==◌, ◌&&◌, ℕ, Bool, true, false, List, [], ◌∷◌, length, slice_index_or, cond, refl, sym, ap, subst, ◌∙◌, inl, inr, arith, zero, suc}
use Rattle.std.proofs.lemmas.Bool.{or_parts, both_ways}
use Rattle.fp_model.specs.declared.kind.Sort.{Sort}
use Rattle.fp_model.specs.declared.kind.Sort.TheVariants.{Half, Unset}
use Rattle.fp_facts.specs.Frames.{join_words}
use Rattle.fp_facts.specs.Sorts.{has_unset, is_wide, join_sorts, same_sort, words_of}
use Rattle.fp_facts.specs.Transfer.{stored_from, stored_word}
use Rattle.fp_facts.proofs.OrderedSorts.{join-unset, sort-below, sorts-idem}

-- below words of which none is Unset stand only these words
pub words-set : (s t : List Sort) → length s ≡ length t → join_words join_sorts s t ≡ t → has_unset t ≡ false → s ≡ t
words-set [] [] long below set = refl
words-set [] (b ∷ t) long below set = absurd (omega arith)
words-set (a ∷ s) [] long below set = absurd (omega arith)
words-set (a ∷ s) (b ∷ t) long below set =
    let known = or_parts (same_sort b Unset) (has_unset t) set in
    let first : join_sorts a b ≡ b = cc in
    let rest : join_words join_sorts s t ≡ t = cc in
    let same : length s ≡ length t = omega arith in
    let rest_is = words-set s t same rest known.1 in
    let first_is : a ≡ b =
    elim (sort-below a b first) [
      | inl is ↦ is
      | inr unset ↦ absurd (both_ways (same_sort b Unset) known.0 (ap (λ v. same_sort v Unset) unset))
    ] in cc

pub word-below : (l m : List Sort) (at : ℕ) → length l ≡ length m → join_words join_sorts l m ≡ m →
    join_sorts (slice_index_or l at Unset) (slice_index_or m at Unset) ≡ slice_index_or m at Unset
word-below [] [] at long below = refl
word-below [] (b ∷ m) at long below = absurd (omega arith)
word-below (a ∷ l) [] at long below = absurd (omega arith)
word-below (a ∷ l) (b ∷ m) zero long below = cc
word-below (a ∷ l) (b ∷ m) (suc at) long below =
    let rest : join_words join_sorts l m ≡ m = cc in
    let same : length l ≡ length m = omega arith in word-below l m at same rest

-- ---- stores

still-unset : (v w : Bool) → cond (v && false) Unset (cond (w && false) Unset Unset) ≡ Unset
still-unset true true = refl
still-unset true false = refl
still-unset false true = refl
still-unset false false = refl

unset-chosen : (t u v w x y : Bool) (s a : Sort) →
    join_sorts (cond t s (cond u Half (cond (v && x) Unset (cond (w && y) Unset a)))) (cond t s (cond u Half (cond (v && false) Unset (cond (w && false) Unset Unset))))
    ≡ cond t s (cond u Half (cond (v && false) Unset (cond (w && false) Unset Unset)))
unset-chosen true u v w x y s a = sorts-idem s
unset-chosen false true v w x y s a = refl
unset-chosen false false v w x y s a =
    let old = cond (v && x) Unset (cond (w && y) Unset a) in
    let is = still-unset v w in ap (λ b. join_sorts old b) is ∙ join-unset old ∙ sym is

stored_word-rises : (s : Sort) (at p : ℕ) (a b : Sort) → join_sorts a b ≡ b → join_sorts (stored_word s at p a) (stored_word s at p b) ≡ stored_word s at p b
stored_word-rises s at p a b below =
    elim (sort-below a b below) [
      | inl is ↦ ap (λ v. join_sorts (stored_word s at p v) (stored_word s at p b)) is ∙ sorts-idem (stored_word s at p b)
      | inr unset ↦ subst (λ v. join_sorts (stored_word s at p a) (stored_word s at p v) ≡ stored_word s at p v) (sym unset)
          (unset-chosen (p == at) (is_wide s && (p == at + 1)) (p + 1 == at) (p == at + length (words_of s)) (is_wide a) (same_sort a Half) s a)
    ]

pub length-stored_from : (s : Sort) (at p : ℕ) (l : List Sort) → length (stored_from s at p l) ≡ length l
length-stored_from s at p [] = refl
length-stored_from s at p (old ∷ l) = ap suc (length-stored_from s at (p + 1) l)

pub stored_from-rises : (s : Sort) (at p : ℕ) (l m : List Sort) → length l ≡ length m → join_words join_sorts l m ≡ m →
    join_words join_sorts (stored_from s at p l) (stored_from s at p m) ≡ stored_from s at p m
stored_from-rises s at p [] m long below = refl
stored_from-rises s at p (a ∷ l) [] long below = absurd (omega arith)
stored_from-rises s at p (a ∷ l) (b ∷ m) long below =
    let first : join_sorts a b ≡ b = cc in
    let rest : join_words join_sorts l m ≡ m = cc in
    let same : length l ≡ length m = omega arith in
    let first_rises = stored_word-rises s at p a b first in
    let rest_rises = stored_from-rises s at (p + 1) l m same rest in cc
