-- What an instruction leaves of a label that fits its code fits too.
use Rattle.std.proofs.Common.{◌≡◌, ◌≤◌, ◌+◌, ◌==◌, ◌&&◌, if◌then◌else◌, not, nat_le, ℕ, Bool, true, false, IsTrue, List, [], ◌∷◌, ◌++◌, length, Option, Some, None, refl, ◌∙◌, arith}
use Rattle.std.specs.List.{list_all}
use Rattle.std.specs.Option.{option_map_or}
use Rattle.std.proofs.lemmas.Bool.{and_parts, and_from, cond_both, eqb-true, eq-eqb, leb-true, le-leb}
use Rattle.fp_model.specs.declared.class.instr.Instr.{Instr}
use Rattle.fp_model.specs.declared.kind.Sort.{Sort}
use Rattle.fp_model.specs.declared.kind.Sort.TheVariants.{Int, Ref, Unset}
use Rattle.fp_facts.specs.declared.effect.Effect.{Effect}
use Rattle.fp_facts.specs.declared.effect.Effect.TheVariants.{Loads, Stores, Counts, Keeps, Shuffles, Takes}
use Rattle.fp_facts.specs.declared.label.Label.{Label}
use Rattle.fp_facts.specs.declared.label.Label.TheVariants.{Unreached, Bad, Frame}
use Rattle.fp_facts.specs.Effects.{effect_of}
use Rattle.fp_facts.specs.Frames.{fits_label}
use Rattle.fp_facts.specs.Sorts.{has_unset, sorts, words_of}
use Rattle.fp_facts.specs.Transfer.{after, capped, carried, cuts_none, effect_label, ends_with, holds_local, is_wrong, shuffled, stored_from, to_handler, without_top}
use Rattle.fp_facts.proofs.RisingWords.{length-stored_from}

-- ---- frames of so many local variables

has_locals : ℕ → Label Sort → Bool
has_locals n Unreached = true
has_locals n Bad = true
has_locals n (Frame l t) = length l == n

sorts-fit : (l : List Sort) → list_all sorts.fits l ≡ true
sorts-fit [] = refl
sorts-fit (a ∷ l) = sorts-fit l

pub frame-fits : (locals stack : ℕ) (l t : List Sort) → length l ≡ locals → length t ≤ stack → IsTrue (fits_label sorts locals stack (Frame l t))
frame-fits locals stack l t long few =
    and_from (length l == locals) _ (eq-eqb (length l) locals long)
    (and_from (nat_le (length t) stack) _ (le-leb (length t) stack few)
    (and_from (list_all sorts.fits l) (list_all sorts.fits t) (sorts-fit l) (sorts-fit t)))

frame-locals : (locals stack : ℕ) (l t : List Sort) → IsTrue (fits_label sorts locals stack (Frame l t)) → length l ≡ locals
frame-locals locals stack l t h = eqb-true (length l) locals (and_parts (length l == locals) _ h).0

-- ---- instructions

left-locals : (n : ℕ) (test : Bool) (l t : List Sort) → length l ≡ n → has_locals n (if test then Frame l t else Bad) ≡ true
unfolding has_locals
left-locals n test l t long = cond_both test (Frame l t) Bad (λ v. has_locals n v ≡ true) (λ _. eq-eqb (length l) n long) (λ _. refl)

effect-locals : (n : ℕ) (e : Effect) (l t : List Sort) → length l ≡ n → has_locals n (effect_label e l t) ≡ true
effect-locals n (Loads s at) l t long = left-locals n (holds_local l at s) l (t ++ words_of s) long
effect-locals n (Stores s at) l t long =
    left-locals n (ends_with t (words_of s)) (stored_from s at 0 l) (without_top (length (words_of s)) t) (length-stored_from s at 0 l ∙ long)
effect-locals n (Counts at) l t long = left-locals n (holds_local l at Int) l t long
effect-locals n Keeps l t long = left-locals n (ends_with t (Ref ∷ [])) l t long
effect-locals n (Shuffles x) l t long = left-locals n (nat_le x.takes (length t) && cuts_none t x.cuts) l (shuffled Unset x t) long
effect-locals n (Takes operands results) l t long = left-locals n (ends_with t operands) l (without_top (length operands) t ++ results) long

capped-fits : (locals most : ℕ) (x : Label Sort) → has_locals locals x ≡ true → IsTrue (fits_label sorts locals (most + 1) (capped most x))
unfolding has_locals
capped-fits locals most Unreached h = refl
capped-fits locals most Bad h = refl
capped-fits locals most (Frame l t) h =
    cond_both (nat_le (length t) most) (Frame l t) Bad (λ v. IsTrue (fits_label sorts locals (most + 1) v))
    (λ few. frame-fits locals (most + 1) l t (eqb-true (length l) locals h) (omega (arith, leb-true (length t) most few)))
    (λ _. refl)

after-fits : (locals most : ℕ) (wrong : Bool) (e : Effect) (x : Label Sort) → IsTrue (fits_label sorts locals (most + 1) x) →
    IsTrue (fits_label sorts locals (most + 1) (after most wrong e x))
after-fits locals most wrong e Unreached h = refl
after-fits locals most wrong e Bad h = refl
after-fits locals most wrong e (Frame l t) h =
    cond_both (not wrong && (nat_le (length t) most && not (has_unset t))) (capped most (effect_label e l t)) Bad (λ v. IsTrue (fits_label sorts locals (most + 1) v))
    (λ _. capped-fits locals most (effect_label e l t) (effect-locals locals e l t (frame-locals locals (most + 1) l t h)))
    (λ _. refl)

-- with the instruction of a number, where there is one
pub looked_after-fits : (locals most instrs number : ℕ) (results : List Sort) (i : Option (ℕ × Instr)) (x : Label Sort) →
    IsTrue (fits_label sorts locals (most + 1) x) →
    IsTrue (fits_label sorts locals (most + 1) (option_map_or (λ j. after most (is_wrong instrs number results j.1) (effect_of j.1) x) i x))
looked_after-fits locals most instrs number results None x h = h
looked_after-fits locals most instrs number results (Some i) x h = after-fits locals most (is_wrong instrs number results i.1) (effect_of i.1) x h

-- ---- handlers

handler-fits : (locals most : ℕ) (x v : Label Sort) → IsTrue (fits_label sorts locals (most + 1) x) → IsTrue (fits_label sorts locals (most + 1) (to_handler x v))
handler-fits locals most x Unreached h = refl
handler-fits locals most x Bad h = refl
handler-fits locals most Unreached (Frame m t) h = refl
handler-fits locals most Bad (Frame m t) h = refl
handler-fits locals most (Frame l s) (Frame m t) h = frame-fits locals (most + 1) l (Ref ∷ []) (frame-locals locals (most + 1) l s h) (omega arith)

pub carried-fits : (handler : Bool) (locals most : ℕ) (x v : Label Sort) → IsTrue (fits_label sorts locals (most + 1) x) → IsTrue (fits_label sorts locals (most + 1) v) →
    IsTrue (fits_label sorts locals (most + 1) (carried handler x v))
carried-fits true locals most x v h behind = handler-fits locals most x v h
carried-fits false locals most x v h behind = behind
