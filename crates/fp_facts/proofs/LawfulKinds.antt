-- The dataflow problem of a code is lawful.
use Rattle.std.proofs.Common.{◌≡◌, ◌<◌, ◌≤◌, ◌+◌, ◌-◌, ◌==◌, ℕ, IsTrue, List, [], ◌++◌, length, All, Option, Some, None, refl, replicate, arith}
use Rattle.std.specs.List.{slice_get}
use Rattle.std.specs.Option.{option_map_or}
use Rattle.std.proofs.lemmas.Bool.{cond_both, cond-false, ne_eqb}
use Rattle.std.proofs.lemmas.List.{length-append, length-replicate}
use Rattle.fp_model.specs.declared.class.Code.{Code}
use Rattle.fp_model.specs.declared.class.instr.Instr.{Instr}
use Rattle.fp_model.specs.declared.kind.Sort.{Sort}
use Rattle.fp_model.specs.declared.kind.Sort.TheVariants.{Unset}
use Rattle.fp_facts.specs.declared.effect.Effect.{Effect}
use Rattle.fp_facts.specs.declared.effect.Effect.TheVariants.{Loads, Stores, Counts, Keeps, Shuffles, Takes}
use Rattle.fp_facts.specs.declared.label.Label.{Label}
use Rattle.fp_facts.specs.declared.label.Label.TheVariants.{Unreached}
use Rattle.fp_facts.specs.Dataflow.{Edge, IsLawful}
use Rattle.fp_facts.specs.Effects.{effect_of}
use Rattle.fp_facts.specs.Frames.{fits_label, join_labels}
use Rattle.fp_facts.specs.Sorts.{join_sorts, sorts}
use Rattle.fp_facts.specs.Transfer.{after, entry_label, first_label, is_wrong, kinds_problem, label_after}
use Rattle.fp_facts.proofs.FittingTransfer.{carried-fits, frame-fits, looked_after-fits}
use Rattle.fp_facts.proofs.JoinedFrames.{frames-lattice}
use Rattle.fp_facts.proofs.OrderedSorts.{sorts-lattice}
use Rattle.fp_facts.proofs.RisingEffects.{IsRising, after-rises, counts-rise, keeps-rise, loads-rise, shuffles-rise, stores-rise, takes-rise}
use Rattle.fp_facts.proofs.RisingLabels.{carried-rises}

effects-rise : (e : Effect) → IsRising e
effects-rise (Loads s at) = loads-rise s at
effects-rise (Stores s at) = stores-rise s at
effects-rise (Counts at) = counts-rise at
effects-rise Keeps = keeps-rise
effects-rise (Shuffles x) = shuffles-rise x
effects-rise (Takes operands results) = takes-rise operands results

-- ---- the label behind an instruction

looked_after-rises : (most instrs number : ℕ) (results : List Sort) (x y : Label Sort) → join_labels join_sorts x y ≡ y → (i : Option (ℕ × Instr)) →
    join_labels join_sorts (option_map_or (λ j. after most (is_wrong instrs number results j.1) (effect_of j.1) x) i x) (option_map_or (λ j. after most (is_wrong instrs number results j.1) (effect_of j.1) y) i y)
    ≡ option_map_or (λ j. after most (is_wrong instrs number results j.1) (effect_of j.1) y) i y
looked_after-rises most instrs number results x y below None = below
looked_after-rises most instrs number results x y below (Some i) = after-rises most (is_wrong instrs number results i.1) (effect_of i.1) (effects-rise (effect_of i.1)) x y below

module _ (code : Code) (results : List Sort) where
  pub label_after-rises : (number : ℕ) (x y : Label Sort) → join_labels join_sorts x y ≡ y →
      join_labels join_sorts (label_after code results number x) (label_after code results number y) ≡ label_after code results number y
  label_after-rises number x y below = looked_after-rises code.max_stack (length code.instrs) number results x y below (slice_get code.instrs number)

  pub label_after-fits : (number : ℕ) (x : Label Sort) → IsTrue (fits_label sorts code.max_locals (code.max_stack + 1) x) →
      IsTrue (fits_label sorts code.max_locals (code.max_stack + 1) (label_after code results number x))
  label_after-fits number x h = looked_after-fits code.max_locals code.max_stack (length code.instrs) number results (slice_get code.instrs number) x h

-- ---- the labels at first

entry-fits : (code : Code) (arguments : List Sort) → length arguments ≤ code.max_locals → IsTrue (fits_label sorts code.max_locals (code.max_stack + 1) (entry_label code arguments))
entry-fits code arguments room =
    let unset = replicate (code.max_locals - length arguments) Unset in
    frame-fits code.max_locals (code.max_stack + 1) (arguments ++ unset) []
    (omega (arith, length-append arguments unset, length-replicate (code.max_locals - length arguments) Unset)) (omega arith)

first-fits : (code : Code) (arguments : List Sort) → length arguments ≤ code.max_locals → (p : ℕ) → IsTrue (fits_label sorts code.max_locals (code.max_stack + 1) (first_label code arguments p))
first-fits code arguments room p =
    cond_both (p == 0) (entry_label code arguments) Unreached (λ v. IsTrue (fits_label sorts code.max_locals (code.max_stack + 1) v)) (λ _. entry-fits code arguments room) (λ _. refl)

first-within : (code : Code) (arguments : List Sort) → 0 < length code.instrs → (p : ℕ) → length code.instrs ≤ p → first_label code arguments p ≡ Unreached
first-within code arguments some p past = cond-false (p == 0) (entry_label code arguments) Unreached (ne_eqb p 0 (λ is. omega arith))

-- ---- all laws

pub kinds-lawful : (code : Code) (arguments results : List Sort) (edges : List Edge) → 0 < length code.instrs → length arguments ≤ code.max_locals →
    All (λ e. (e.0 < length code.instrs) × (e.1 < length code.instrs)) edges → IsLawful (kinds_problem code arguments results edges)
kinds-lawful code arguments results edges some room within = record {
  lattice = frames-lattice sorts sorts-lattice code.max_locals (code.max_stack + 1);
  fits = λ e x h. carried-fits e.2 code.max_locals code.max_stack x (label_after code results e.0 x) h (label_after-fits code results e.0 x h);
  monotone = λ e x y below. carried-rises e.2 x y (label_after code results e.0 x) (label_after code results e.0 y) below (label_after-rises code results e.0 x y below);
  edges_within = within;
  first_fits = first-fits code arguments room;
  first_within = first-within code arguments some;
}
