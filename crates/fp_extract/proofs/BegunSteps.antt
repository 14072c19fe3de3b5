-- What the steps of a kinded code begin to initialise is what the code does.
use Rattle.std.proofs.Common.{◌≡◌, ℕ, suc, ◌+◌, true, false, List, [], ◌∷◌, ◌++◌, Some, Option, filter, map, length, refl, sym, ap, ap₂, subst, ◌∙◌, arith}
use Rattle.std.specs.Prelude.{slice_get, option_and_then, if◌then◌else◌}
use Rattle.std.specs.List.{flat_map, range_with_len}
use Rattle.std.specs.Option.{option_map_or, option_to_list}
use Rattle.std.proofs.lemmas.Grind.{flat_map-append}
use Rattle.std.proofs.lemmas.List.{append-nil}
use Rattle.std.proofs.lemmas.Option.{slice_get_within}
use Rattle.fp_model.specs.declared.class.Code.{Code}
use Rattle.fp_model.specs.declared.class.Method.{Method}
use Rattle.fp_model.specs.declared.class.instr.Instr.{Instr}
use Rattle.fp_model.specs.declared.kind.Sort.{Sort}
use Rattle.fp_model.specs.ClassSet.{SetView}
use Rattle.fp_facts.specs.declared.label.Label.{Label}
use Rattle.fp_facts.specs.declared.label.Label.TheVariants.{Unreached, Bad, Frame}
use Rattle.fp_facts.specs.Effects.{effect_of}
use Rattle.fp_facts.specs.Initialisation.{begins, begun_at, has_initialiser, initialised_by, with_ancestors}
use Rattle.fp_facts.specs.Kinded.{IsKindedCode}
use Rattle.fp_facts.specs.Origins.{frame_origins, origins_before}
use Rattle.fp_facts.specs.Selection.{ascending_among}
use Rattle.fp_facts.specs.Sorts.{result_words}
use Rattle.fp_facts.specs.Steps.{Step, step_of, steps, steps_of}
use Rattle.fp_facts.specs.Transfer.{after, fails, frame_before, is_bad, is_unreached, is_wrong, label_after}
use Rattle.fp_extract.specs.Begun.{begun_by}

-- an instruction fails where the frame before it is Bad
bad-fails : (m : Method) (code : Code) (number : ℕ) (i : ℕ × Instr) → slice_get code.instrs number ≡ Some i → frame_before m code number ≡ Bad → fails m code number ≡ true
bad-fails m code number i is bad =
    let results = result_words m.kinds.result in
    let behind : Label Sort → (ℕ × Instr) → Label Sort = λ x j. after code.max_stack (is_wrong (length code.instrs) number results j.1) (effect_of j.1) x in
    ap (λ (x : Label Sort). is_bad (label_after code results number x)) bad ∙ ap (λ (o : Option (ℕ × Instr)). is_bad (option_map_or (behind Bad) o Bad)) is

module _ (set : SetView) (m : Method) (code : Code) (kinded : IsKindedCode m code) where
  abbrev begun_by_step : Step → List ℕ
  begun_by_step s = flat_map (with_ancestors set.classes) (option_to_list (initialised_by set.classes s.instr))

  abbrev begun_by_place : Option (ℕ × Instr) → List ℕ
  begun_by_place place = flat_map (with_ancestors set.classes) (option_to_list (option_and_then (λ i. initialised_by set.classes i.1) place))

  begun-there : (number : ℕ) (i : ℕ × Instr) → slice_get code.instrs number ≡ Some i → flat_map begun_by_step (step_of i (origins_before m code number)) ≡ begun_at set m code number
  begun-there number i is = by-label (frame_before m code number) refl
    where
      by-label : (label : Label Sort) → frame_before m code number ≡ label → flat_map begun_by_step (step_of i (frame_origins m code number label)) ≡ (if is_unreached label then [] else begun_by_place (slice_get code.instrs number))
      by-label Unreached at = refl
      by-label Bad at = let wrong : true ≡ false = sym (bad-fails m code number i is at) ∙ kinded number (slice_get_within code.instrs number i is) in cc
      by-label (Frame l s) at = append-nil (begun_by_place (Some i)) ∙ ap begun_by_place (sym is)

  -- the instructions of a rest of the code, which begins at a number
  begun-rest : (rest : List (ℕ × Instr)) (first : ℕ) → ((k : ℕ) (i : ℕ × Instr) → slice_get rest k ≡ Some i → slice_get code.instrs (first + k) ≡ Some i) →
      flat_map begun_by_step (steps_of rest (map (origins_before m code) (range_with_len first (length rest)))) ≡ flat_map (begun_at set m code) (range_with_len first (length rest))
  begun-rest [] first placed = refl
  begun-rest (i ∷ rest) first placed =
      let At : ℕ → (ℕ × Instr) → Type 0 = λ number j. slice_get code.instrs number ≡ Some j in
      let none : first + 0 ≡ first = omega arith in
      let here : slice_get code.instrs first ≡ Some i = subst (λ number. At number i) none (placed 0 i refl) in
      let later : (k : ℕ) (j : ℕ × Instr) → slice_get rest k ≡ Some j → slice_get code.instrs ((first + 1) + k) ≡ Some j = λ k j is.
      let on : first + suc k ≡ (first + 1) + k = omega arith in
      subst (λ number. At number j) on (placed (suc k) j is) in
      flat_map-append begun_by_step (step_of i (origins_before m code first)) (steps_of rest (map (origins_before m code) (range_with_len (first + 1) (length rest))))
      ∙ ap₂ ◌++◌ (begun-there first i here) (begun-rest rest (first + 1) later)

pub begun-steps : (set : SetView) (m : Method) (code : Code) → IsKindedCode m code → begun_by set (steps m code) ≡ begins set m code
unfolding steps
begun-steps set m code kinded =
    let placed : (k : ℕ) (i : ℕ × Instr) → slice_get code.instrs k ≡ Some i → slice_get code.instrs (0 + k) ≡ Some i = λ k i is.
    let none : k ≡ 0 + k = omega arith in subst (λ number. slice_get code.instrs number ≡ Some i) none is in
    ap (λ (l : List ℕ). ascending_among (length set.classes) (filter (has_initialiser set) l)) (begun-rest set m code kinded code.instrs 0 placed)
