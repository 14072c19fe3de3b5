-- What an effect leaves of the words of a frame has as many words as what it leaves of their kinds.
use Rattle.std.proofs.Common.{◌≡◌, ◌+◌, ◌-◌, ◌&&◌, nat_le, ℕ, Bool, List, [], ◌∷◌, ◌++◌, length, map, take, slice_index_or, refl, sym, ap, ◌∙◌, cond, arith}
use Rattle.std.proofs.lemmas.Bool.{cond_both}
use Rattle.std.proofs.lemmas.List.{length-append, length-map, length-take-le}
use Rattle.fp_model.specs.declared.kind.Sort.{Sort}
use Rattle.fp_model.specs.declared.kind.Sort.TheVariants.{Int, Ref, Half, Unset}
use Rattle.fp_facts.specs.declared.effect.Effect.{Effect}
use Rattle.fp_facts.specs.declared.effect.Effect.TheVariants.{Loads, Stores, Counts, Keeps, Shuffles, Takes}
use Rattle.fp_facts.specs.declared.label.Label.{Label}
use Rattle.fp_facts.specs.declared.label.Label.TheVariants.{Unreached, Bad, Frame}
use Rattle.fp_facts.specs.Moves.{moved_locals, moved_stack}
use Rattle.fp_facts.specs.Origins.{made_sorts}
use Rattle.fp_facts.specs.Sorts.{is_wide, words_of}
use Rattle.fp_facts.specs.Transfer.{at_depth, cuts_none, effect_label, ends_with, holds_local, shuffled, stored_from, without_top}
use Rattle.fp_facts.proofs.FittingMoves.{length-moved_locals}
use Rattle.fp_facts.proofs.RisingWords.{length-stored_from}

length-without_top : {W : Type 0} (n : ℕ) (t : List W) → length (without_top n t) ≡ length t - n
length-without_top n t = length-take-le (length t - n) t (omega arith)

length-loaded : {W : Type 0} (f : ℕ → W) (s : Sort) → length (map f (take (length (words_of s)) (0 ∷ 1 ∷ []))) ≡ length (words_of s)
length-loaded f s =
    cond_both (is_wide s) (s ∷ Half ∷ []) (s ∷ []) (λ v. length (map f (take (length v) (0 ∷ 1 ∷ []))) ≡ length v) (λ _. refl) (λ _. refl)

-- a label is Bad, or a frame of so many local variables and so many words on the stack
abbrev pub IsMeasured : (locals stack : ℕ) → Label Sort → Type 0
IsMeasured locals stack Unreached = ⊥
IsMeasured locals stack Bad = Unit {0}
IsMeasured locals stack (Frame m u) = (locals ≡ length m) × (stack ≡ length u)

left-measured : (locals stack : ℕ) (test : Bool) (m u : List Sort) → locals ≡ length m → stack ≡ length u → IsMeasured locals stack (cond test (Frame m u) Bad)
left-measured locals stack test m u h k = cond_both test (Frame m u) Bad (IsMeasured locals stack) (λ _. (h, k)) (λ _. tt)

module _ {W : Type 0} (none : W) (l t : List Sort) (m u : List W) (locals : length m ≡ length l) (stack : length u ≡ length t) where
  pub effect-measured : (made : List W) (e : Effect) → length made ≡ length (made_sorts e) →
      IsMeasured (length (moved_locals e m u)) (length (moved_stack none made e m u)) (effect_label e l t)
  effect-measured made (Loads s at) long =
      let f : ℕ → W = λ i. slice_index_or m (at + i) none in
      left-measured (length m) _ (holds_local l at s) l (t ++ words_of s) locals
      (length-append u (map f (take (length (words_of s)) (0 ∷ 1 ∷ []))) ∙ ap (λ n. n + length (map f (take (length (words_of s)) (0 ∷ 1 ∷ [])))) stack
      ∙ ap (λ n. length t + n) (length-loaded f s) ∙ sym (length-append t (words_of s)))
  effect-measured made (Stores s at) long =
      left-measured _ _ (ends_with t (words_of s)) (stored_from s at 0 l) (without_top (length (words_of s)) t)
      (length-moved_locals (Stores s at) m u ∙ locals ∙ sym (length-stored_from s at 0 l))
      (length-without_top (length (words_of s)) u ∙ ap (λ n. n - length (words_of s)) stack ∙ sym (length-without_top (length (words_of s)) t))
  effect-measured made (Counts at) long = left-measured (length m) (length u) (holds_local l at Int) l t locals stack
  effect-measured made Keeps long = left-measured (length m) (length u) (ends_with t (Ref ∷ [])) l t locals stack
  effect-measured made (Shuffles x) long =
      left-measured (length m) _ (nat_le x.takes (length t) && cuts_none t x.cuts) l (shuffled Unset x t) locals
      (length-append (without_top x.takes u) (map (at_depth none u) x.order) ∙ ap (λ n. n + length (map (at_depth none u) x.order)) (length-without_top x.takes u)
      ∙ ap (λ n. n - x.takes + length (map (at_depth none u) x.order)) stack
      ∙ ap (λ n. length t - x.takes + n) (length-map x.order (at_depth none u) ∙ sym (length-map x.order (at_depth Unset t)))
      ∙ ap (λ n. n + length (map (at_depth Unset t) x.order)) (sym (length-without_top x.takes t))
      ∙ sym (length-append (without_top x.takes t) (map (at_depth Unset t) x.order)))
  effect-measured made (Takes operands results) long =
      left-measured (length m) _ (ends_with t operands) l (without_top (length operands) t ++ results) locals
      (length-append (without_top (length operands) u) made ∙ ap (λ n. n + length made) (length-without_top (length operands) u)
      ∙ ap (λ n. n - length operands + length made) stack
      ∙ ap (λ n. length t - length operands + n) long
      ∙ ap (λ n. n + length results) (sym (length-without_top (length operands) t))
      ∙ sym (length-append (without_top (length operands) t) results))
