-- The dataflow of kinds gives frames exactly where edges lead from the first instruction.
use Rattle.std.proofs.Common.{◌≡◌, ◌<◌, ◌==◌, ◌||◌, ◌&&◌, if◌then◌else◌, not, nat_le, ℕ, Bool, true, false, List, [], ◌∷◌, ◌++◌, length, All, Option, Some, None, refl, ◌∙◌, arith}
use Rattle.std.specs.List.{slice_get}
use Rattle.std.specs.Option.{option_map_or}
use Rattle.std.proofs.lemmas.Bool.{cond_both, not-true, not_from_false}
use Rattle.fp_model.specs.declared.class.Code.{Code}
use Rattle.fp_model.specs.declared.class.instr.Instr.{Instr}
use Rattle.fp_model.specs.declared.kind.Sort.{Sort}
use Rattle.fp_model.specs.declared.kind.Sort.TheVariants.{Int, Ref, Unset}
use Rattle.fp_facts.specs.declared.effect.Effect.{Effect}
use Rattle.fp_facts.specs.declared.effect.Effect.TheVariants.{Loads, Stores, Counts, Keeps, Shuffles, Takes}
use Rattle.fp_facts.specs.declared.label.Label.{Label}
use Rattle.fp_facts.specs.declared.label.Label.TheVariants.{Unreached, Bad, Frame}
use Rattle.fp_facts.specs.Dataflow.{Edge, Reaches, solution}
use Rattle.fp_facts.specs.Effects.{effect_of}
use Rattle.fp_facts.specs.Frames.{join_labels, join_words, same_shape}
use Rattle.fp_facts.specs.Sorts.{has_unset, join_sorts, words_of}
use Rattle.fp_facts.specs.Transfer.{after, capped, carried, cuts_none, effect_label, ends_with, entry_label, first_label, holds_local, is_unreached, is_wrong, kinds_problem, label_after, shuffled, stored_from, to_handler, without_top}
use Rattle.fp_facts.proofs.ReachedFlows.{passes-reaches, reaches-passes}

abbrev is_reached : Label Sort → Bool
is_reached x = not (is_unreached x)

join-reached : (x y : Label Sort) → is_reached (join_labels join_sorts x y) ≡ (is_reached x || is_reached y)
join-reached Unreached y = refl
join-reached Bad y = refl
join-reached (Frame l s) Unreached = refl
join-reached (Frame l s) Bad = refl
join-reached (Frame l s) (Frame m t) =
    cond_both (same_shape l s m t) (Frame (join_words join_sorts l m) (join_words join_sorts s t)) Bad (λ v. is_reached v ≡ true) (λ _. refl) (λ _. refl)

-- ---- instructions

left-reached : (test : Bool) (l t : List Sort) → is_reached (if test then Frame l t else Bad) ≡ true
left-reached true l t = refl
left-reached false l t = refl

effect-reached : (e : Effect) (l t : List Sort) → is_reached (effect_label e l t) ≡ true
effect-reached (Loads s at) l t = left-reached (holds_local l at s) l (t ++ words_of s)
effect-reached (Stores s at) l t = left-reached (ends_with t (words_of s)) (stored_from s at 0 l) (without_top (length (words_of s)) t)
effect-reached (Counts at) l t = left-reached (holds_local l at Int) l t
effect-reached Keeps l t = left-reached (ends_with t (Ref ∷ [])) l t
effect-reached (Shuffles x) l t = left-reached (nat_le x.takes (length t) && cuts_none t x.cuts) l (shuffled Unset x t)
effect-reached (Takes operands results) l t = left-reached (ends_with t operands) l (without_top (length operands) t ++ results)

capped-reached : (most : ℕ) (x : Label Sort) → is_reached (capped most x) ≡ is_reached x
capped-reached most Unreached = refl
capped-reached most Bad = refl
capped-reached most (Frame l t) = left-reached (nat_le (length t) most) l t

after-reached : (most : ℕ) (wrong : Bool) (e : Effect) (x : Label Sort) → is_reached (after most wrong e x) ≡ is_reached x
after-reached most wrong e Unreached = refl
after-reached most wrong e Bad = refl
after-reached most wrong e (Frame l t) =
    cond_both (not wrong && (nat_le (length t) most && not (has_unset t))) (capped most (effect_label e l t)) Bad (λ v. is_reached v ≡ true)
    (λ _. capped-reached most (effect_label e l t) ∙ effect-reached e l t)
    (λ _. refl)

looked_after-reached : (most instrs number : ℕ) (results : List Sort) (i : Option (ℕ × Instr)) (x : Label Sort) →
    is_reached (option_map_or (λ j. after most (is_wrong instrs number results j.1) (effect_of j.1) x) i x) ≡ is_reached x
looked_after-reached most instrs number results None x = refl
looked_after-reached most instrs number results (Some i) x = after-reached most (is_wrong instrs number results i.1) (effect_of i.1) x

handler-reached : (x v : Label Sort) → is_reached v ≡ is_reached x → is_reached (to_handler x v) ≡ is_reached x
handler-reached x Unreached h = h
handler-reached x Bad h = h
handler-reached Unreached (Frame m t) h = refl
handler-reached Bad (Frame m t) h = refl
handler-reached (Frame l s) (Frame m t) h = refl

carried-reached : (handler : Bool) (x v : Label Sort) → is_reached v ≡ is_reached x → is_reached (carried handler x v) ≡ is_reached x
carried-reached true x v h = handler-reached x v h
carried-reached false x v h = h

-- ---- the problem

module _ (code : Code) (arguments results : List Sort) (edges : List Edge) where
  carry-reached : (e : Edge) (x : Label Sort) → is_reached (carried e.2 x (label_after code results e.0 x)) ≡ is_reached x
  carry-reached e x = carried-reached e.2 x (label_after code results e.0 x) (looked_after-reached code.max_stack (length code.instrs) e.0 results (slice_get code.instrs e.0) x)

  first-reached : (p : ℕ) → is_reached (first_label code arguments p) ≡ (p == 0)
  first-reached p = first-chosen (p == 0) where
    first-chosen : (t : Bool) → is_reached (if t then entry_label code arguments else Unreached) ≡ t
    first-chosen true = refl
    first-chosen false = refl

  pub reaches-labelled : 0 < length code.instrs → All (λ e. (e.0 < length code.instrs) × (e.1 < length code.instrs)) edges → (p : ℕ) → Reaches edges p →
      is_unreached (solution (kinds_problem code arguments results edges) p) ≡ false
  reaches-labelled some within p reached =
      not-true (is_unreached (solution (kinds_problem code arguments results edges) p))
      (reaches-passes (kinds_problem code arguments results edges) is_reached join-reached carry-reached first-reached some (omega arith) within p reached)

  pub labelled-reaches : (p : ℕ) → is_unreached (solution (kinds_problem code arguments results edges) p) ≡ false → Reaches edges p
  labelled-reaches p h =
      passes-reaches (kinds_problem code arguments results edges) is_reached join-reached carry-reached first-reached p
      (not_from_false (is_unreached (solution (kinds_problem code arguments results edges) p)) h)
