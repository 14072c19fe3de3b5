-- The effects of instructions keep the order of labels.
use Rattle.std.proofs.Common.{◌≡◌, ◌+◌, if◌then◌else◌, ℕ, Bool, true, false, not, ◌&&◌, nat_le, List, [], ◌∷◌, ◌++◌, length, slice_index_or, refl, sym, ap, subst, ◌∙◌, inl, inr}
use Rattle.std.proofs.lemmas.Bool.{and_parts, and_from, or_cases, or_left, or_right, not-true, both_ways}
use Rattle.fp_model.specs.declared.kind.Sort.{Sort}
use Rattle.fp_model.specs.declared.kind.Sort.TheVariants.{Int, Ref, Half, Unset}
use Rattle.fp_facts.specs.declared.effect.Effect.{Effect}
use Rattle.fp_facts.specs.declared.effect.Effect.TheVariants.{Loads, Stores, Counts, Keeps, Shuffles, Takes}
use Rattle.fp_facts.specs.declared.effect.Shuffling.{Shuffling}
use Rattle.fp_facts.specs.declared.label.Label.{Label}
use Rattle.fp_facts.specs.declared.label.Label.TheVariants.{Unreached, Bad, Frame}
use Rattle.fp_facts.specs.Frames.{join_labels, join_words}
use Rattle.fp_facts.specs.Sorts.{has_unset, is_wide, join_sorts, same_sort, sorts, words_of}
use Rattle.fp_facts.specs.Transfer.{after, capped, cuts_none, effect_label, ends_with, holds_local, shuffled, stored_from, without_top}
use Rattle.fp_facts.proofs.JoinedFrames.{frame-below}
use Rattle.fp_facts.proofs.OrderedSorts.{same_sort-true, sort-below, sorts-lattice}
use Rattle.fp_facts.proofs.RisingLabels.{bad-above, capped-rises, frame-rises, test-rises}
use Rattle.fp_facts.proofs.RisingWords.{length-stored_from, stored_from-rises, word-below, words-set}

same_sort-down : (s a b : Sort) → same_sort s Unset ≡ false → join_sorts a b ≡ b → same_sort b s ≡ true → same_sort a s ≡ true
same_sort-down s a b set below h =
    elim (sort-below a b below) [
      | inl is ↦ ap (λ v. same_sort v s) is ∙ h
      | inr unset ↦ absurd (both_ways (same_sort s Unset) set (ap (λ v. same_sort v Unset) (sym (same_sort-true b s h) ∙ unset)))
    ]

-- a value that local variables hold, those below hold too
holds_local-down : (s : Sort) (at : ℕ) (l m : List Sort) → length l ≡ length m → join_words join_sorts l m ≡ m →
    holds_local m at s ≡ true → holds_local l at s ≡ true
holds_local-down s at l m long below h =
    let known = and_parts (not (same_sort s Unset)) _ h in
    let words = and_parts (same_sort (slice_index_or m at Unset) s) _ known.1 in
    and_from (not (same_sort s Unset)) _ known.0
    (and_from (same_sort (slice_index_or l at Unset) s) _
    (same_sort-down s _ (slice_index_or m at Unset) (not-true (same_sort s Unset) known.0) (word-below l m at long below) words.0)
    (elim (or_cases (not (is_wide s)) (same_sort (slice_index_or m (at + 1) Unset) Half) words.1) [
      | inl narrow ↦ or_left (not (is_wide s)) _ narrow
      | inr half ↦ or_right (not (is_wide s)) _ (same_sort-down Half _ (slice_index_or m (at + 1) Unset) refl (word-below l m (at + 1) long below) half)
    ]))

-- on one stack, an effect keeps the order of local variables
abbrev pub IsRising : Effect → Type 0
IsRising e = (l m t : List Sort) → length l ≡ length m → join_words join_sorts l m ≡ m →
    join_labels join_sorts (effect_label e l t) (effect_label e m t) ≡ effect_label e m t

pub loads-rise : (s : Sort) (at : ℕ) → IsRising (Loads s at)
loads-rise s at l m t long below =
    test-rises (holds_local l at s) (holds_local m at s) (Frame l (t ++ words_of s)) (Frame m (t ++ words_of s))
    (λ held. (holds_local-down s at l m long below held, frame-rises l m (t ++ words_of s) long below))

pub stores-rise : (s : Sort) (at : ℕ) → IsRising (Stores s at)
stores-rise s at l m t long below =
    let rest = without_top (length (words_of s)) t in
    test-rises (ends_with t (words_of s)) (ends_with t (words_of s)) (Frame (stored_from s at 0 l) rest) (Frame (stored_from s at 0 m) rest)
    (λ ends. (
      ends,
      frame-rises (stored_from s at 0 l) (stored_from s at 0 m) rest
          (length-stored_from s at 0 l ∙ long ∙ sym (length-stored_from s at 0 m))
          (stored_from-rises s at 0 l m long below),
    ))

pub counts-rise : (at : ℕ) → IsRising (Counts at)
counts-rise at l m t long below =
    test-rises (holds_local l at Int) (holds_local m at Int) (Frame l t) (Frame m t)
    (λ held. (holds_local-down Int at l m long below held, frame-rises l m t long below))

-- what asks nothing of the local variables and leaves them
stack-rises : (test : Bool) (l m t : List Sort) → length l ≡ length m → join_words join_sorts l m ≡ m →
    join_labels join_sorts (if test then Frame l t else Bad) (if test then Frame m t else Bad) ≡ (if test then Frame m t else Bad)
stack-rises test l m t long below = test-rises test test (Frame l t) (Frame m t) (λ h. (h, frame-rises l m t long below))

pub keeps-rise : IsRising Keeps
keeps-rise l m t long below = stack-rises (ends_with t (Ref ∷ [])) l m t long below

pub shuffles-rise : (x : Shuffling) → IsRising (Shuffles x)
shuffles-rise x l m t long below = stack-rises (nat_le x.takes (length t) && cuts_none t x.cuts) l m (shuffled Unset x t) long below

pub takes-rise : (operands results : List Sort) → IsRising (Takes operands results)
takes-rise operands results l m t long below = stack-rises (ends_with t operands) l m (without_top (length operands) t ++ results) long below

-- no frame with an Unset word on its stack passes, and below any other stand frames of the same stack
pub after-rises : (most : ℕ) (wrong : Bool) (e : Effect) → IsRising e → (x y : Label Sort) → join_labels join_sorts x y ≡ y →
    join_labels join_sorts (after most wrong e x) (after most wrong e y) ≡ after most wrong e y
after-rises most wrong e rises Unreached y below = refl
after-rises most wrong e rises Bad y below = ap (λ v. after most wrong e v) below
after-rises most wrong e rises (Frame l s) Unreached below = absurd cc
after-rises most wrong e rises (Frame l s) Bad below = bad-above (after most wrong e (Frame l s))
after-rises most wrong e rises (Frame l s) (Frame m t) below =
    let known = frame-below sorts sorts-lattice l s m t below in
    let passes : List Sort → Bool = λ v. not wrong && (nat_le (length v) most && not (has_unset v)) in
    test-rises (passes s) (passes t) (capped most (effect_label e l s)) (capped most (effect_label e m t))
    (λ h. let parts = and_parts (not wrong) _ h in
    let stack = and_parts (nat_le (length t) most) _ parts.1 in
    let is = words-set s t known.stack_long known.stack (not-true (has_unset t) stack.1) in (
      ap passes is ∙ h,
      capped-rises most (effect_label e l s) (effect_label e m t)
          (subst (λ v. join_labels join_sorts (effect_label e l v) (effect_label e m t) ≡ effect_label e m t) (sym is)
          (rises l m t known.locals_long known.locals)),
    ))
