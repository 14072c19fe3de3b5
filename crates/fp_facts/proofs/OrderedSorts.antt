-- Sorts are a lattice, in which every sort stands below Unset and below nothing else but itself.
use Rattle.std.proofs.Common.{◌≡◌, ◌≤◌, ◌⊎◌, ◌==◌, if◌then◌else◌, ℕ, Bool, true, false, refl, sym, ap, ◌∙◌, inl, inr, arith}
use Rattle.std.proofs.lemmas.Bool.{cond-true, cond-false, cond_both, eqb-true, eq-eqb, false_from_ne_true, both_ways}
use Rattle.fp_model.specs.declared.kind.Sort.{Sort}
use Rattle.fp_model.specs.declared.kind.Sort.TheVariants.{Int, Long, Float, Double, Ref, Half, Unset}
use Rattle.fp_facts.specs.Lattices.{IsLattice}
use Rattle.fp_facts.specs.Sorts.{sort_number, same_sort, join_sorts, sort_height, sorts}

-- the sort of a number
numbered : ℕ → Sort
numbered n =
    if n == 0 then Int
    else if n == 1 then Long
    else if n == 2 then Float
    else if n == 3 then Double
    else if n == 4 then Ref
    else if n == 5 then Half
    else Unset

numbered-back : (a : Sort) → numbered (sort_number a) ≡ a
unfolding numbered
numbered-back Int = refl
numbered-back Long = refl
numbered-back Float = refl
numbered-back Double = refl
numbered-back Ref = refl
numbered-back Half = refl
numbered-back Unset = refl

pub same_sort-true : (a b : Sort) → same_sort a b ≡ true → a ≡ b
same_sort-true a b h = sym (numbered-back a) ∙ ap numbered (eqb-true (sort_number a) (sort_number b) h) ∙ numbered-back b

pub same_sort-refl : (a : Sort) → same_sort a a ≡ true
same_sort-refl a = eq-eqb (sort_number a) (sort_number a) refl

join-same : (a b : Sort) → same_sort a b ≡ true → join_sorts a b ≡ a
join-same a b h = cond-true (same_sort a b) a Unset h

join-other : (a b : Sort) → same_sort a b ≡ false → join_sorts a b ≡ Unset
join-other a b h = cond-false (same_sort a b) a Unset h

pub join-unset : (a : Sort) → join_sorts a Unset ≡ Unset
join-unset Int = refl
join-unset Long = refl
join-unset Float = refl
join-unset Double = refl
join-unset Ref = refl
join-unset Half = refl
join-unset Unset = refl

unset-join : (a : Sort) → join_sorts Unset a ≡ Unset
unset-join a = cond_both (same_sort Unset a) Unset Unset (λ v. v ≡ Unset) (λ _. refl) (λ _. refl)

pub sorts-idem : (a : Sort) → join_sorts a a ≡ a
sorts-idem a = join-same a a (same_sort-refl a)

sorts-comm-by : (a b : Sort) (t : Bool) → same_sort a b ≡ t → join_sorts a b ≡ join_sorts b a
sorts-comm-by a b true h = let is = same_sort-true a b h in cc
sorts-comm-by a b false h =
    join-other a b h
    ∙ sym (join-other b a (false_from_ne_true (same_sort b a) (λ k. both_ways (same_sort a b) h (eq-eqb (sort_number a) (sort_number b) (ap sort_number (sym (same_sort-true b a k)))))))

sorts-comm : (a b : Sort) → join_sorts a b ≡ join_sorts b a
sorts-comm a b = sorts-comm-by a b (same_sort a b) refl

sorts-assoc-by : (a b c : Sort) (t u : Bool) → same_sort a b ≡ t → same_sort b c ≡ u → join_sorts (join_sorts a b) c ≡ join_sorts a (join_sorts b c)
sorts-assoc-by a b c true true h k =
    ap (λ v. join_sorts v c) (join-same a b h) ∙ ap (λ v. join_sorts v c) (same_sort-true a b h) ∙ join-same b c k
    ∙ sym (ap (λ v. join_sorts a v) (join-same b c k) ∙ join-same a b h ∙ same_sort-true a b h)
sorts-assoc-by a b c true false h k =
    ap (λ v. join_sorts v c) (join-same a b h) ∙ ap (λ v. join_sorts v c) (same_sort-true a b h) ∙ join-other b c k
    ∙ sym (ap (λ v. join_sorts a v) (join-other b c k) ∙ join-unset a)
sorts-assoc-by a b c false true h k =
    ap (λ v. join_sorts v c) (join-other a b h) ∙ unset-join c
    ∙ sym (ap (λ v. join_sorts a v) (join-same b c k) ∙ join-other a b h)
sorts-assoc-by a b c false false h k =
    ap (λ v. join_sorts v c) (join-other a b h) ∙ unset-join c
    ∙ sym (ap (λ v. join_sorts a v) (join-other b c k) ∙ join-unset a)

-- what stands below a sort is that sort, or the sort is Unset
sort-below-by : (a b : Sort) (t : Bool) → same_sort a b ≡ t → join_sorts a b ≡ b → (a ≡ b) ⊎ (b ≡ Unset)
sort-below-by a b true h below = inl (same_sort-true a b h)
sort-below-by a b false h below = inr (sym below ∙ join-other a b h)

pub sort-below : (a b : Sort) → join_sorts a b ≡ b → (a ≡ b) ⊎ (b ≡ Unset)
sort-below a b below = sort-below-by a b (same_sort a b) refl below

pub below-sort : (a b : Sort) → (a ≡ b) ⊎ (b ≡ Unset) → join_sorts a b ≡ b
below-sort a b h =
    elim h [
      | inl is ↦ ap (λ v. join_sorts v b) is ∙ sorts-idem b
      | inr unset ↦ ap (λ v. join_sorts a v) unset ∙ join-unset a ∙ sym unset
    ]

height-within : (a : Sort) → sort_height a ≤ 1
height-within Unset = omega arith
height-within _ = omega arith

height-unset : (a : Sort) → 1 ≤ sort_height a → a ≡ Unset
height-unset Unset h = refl
height-unset _ h = absurd (omega arith)

sorts-grow : (a b : Sort) → join_sorts a b ≡ b → sort_height a ≤ sort_height b
sorts-grow a b below =
    elim (sort-below a b below) [
      | inl is ↦ omega (arith, ap sort_height is)
      | inr unset ↦ omega (arith, height-within a, ap sort_height unset)
    ]

sorts-same : (a b : Sort) → join_sorts a b ≡ b → sort_height b ≤ sort_height a → a ≡ b
sorts-same a b below le =
    elim (sort-below a b below) [
      | inl is ↦ is
      | inr unset ↦ height-unset a (omega (arith, ap sort_height unset)) ∙ sym unset
    ]

pub sorts-lattice : IsLattice sorts
sorts-lattice = record {
  associative = λ a b c. sorts-assoc-by a b c (same_sort a b) (same_sort b c) refl refl;
  commutative = sorts-comm;
  idempotent = sorts-idem;
  fits_join = λ _ _ _ _. refl;
  height_most = λ a _. height-within a;
  height_grows = λ a b _ _ below. sorts-grow a b below;
  height_same = λ a b _ _ below le. sorts-same a b below le;
}
