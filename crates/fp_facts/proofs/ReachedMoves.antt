-- The dataflow of moved words gives labels exactly where edges lead from the first instruction.
use Rattle.std.proofs.Common.{◌≡◌, ◌<◌, ◌==◌, ◌||◌, if◌then◌else◌, not, nat_le, ℕ, Bool, true, false, List, length, All, Option, Some, None, refl, arith}
use Rattle.std.specs.List.{slice_get}
use Rattle.std.specs.Option.{option_map_or}
use Rattle.std.proofs.lemmas.Bool.{cond_both, not-true, not_from_false}
use Rattle.fp_model.specs.declared.class.Code.{Code}
use Rattle.fp_model.specs.declared.class.instr.Instr.{Instr}
use Rattle.fp_facts.specs.declared.effect.Effect.{Effect}
use Rattle.fp_facts.specs.declared.label.Label.{Label}
use Rattle.fp_facts.specs.declared.label.Label.TheVariants.{Unreached, Bad, Frame}
use Rattle.fp_facts.specs.Dataflow.{Edge, Reaches, solution}
use Rattle.fp_facts.specs.Effects.{effect_of}
use Rattle.fp_facts.specs.Frames.{join_labels, join_words, same_shape}
use Rattle.fp_facts.specs.Lattices.{Lattice}
use Rattle.fp_facts.specs.Moves.{caught_label, entry_words, first_words, moved, moved_after, moved_along, moved_locals, moved_stack, moves_problem}
use Rattle.fp_facts.specs.Transfer.{is_unreached}
use Rattle.fp_facts.proofs.ReachedFlows.{passes-reaches, reaches-passes}

abbrev pub is_reached : {W : Type 0} → Label W → Bool
is_reached x = not (is_unreached x)

module _ {W : Type 0} (w : Lattice W) (none caught : W) where
  join-reached : (x y : Label W) → is_reached (join_labels w.join x y) ≡ (is_reached x || is_reached y)
  join-reached Unreached y = refl
  join-reached Bad y = refl
  join-reached (Frame l s) Unreached = refl
  join-reached (Frame l s) Bad = refl
  join-reached (Frame l s) (Frame m t) =
      cond_both (same_shape l s m t) (Frame (join_words w.join l m) (join_words w.join s t)) Bad (λ v. is_reached v ≡ true) (λ _. refl) (λ _. refl)

  pub moved-reached : (most : ℕ) (made : List W) (e : Effect) (x : Label W) → is_reached (moved none most made e x) ≡ is_reached x
  moved-reached most made e Unreached = refl
  moved-reached most made e Bad = refl
  moved-reached most made e (Frame l s) =
      cond_both (nat_le (length (moved_stack none made e l s)) most) (Frame (moved_locals e l s) (moved_stack none made e l s)) Bad (λ v. is_reached v ≡ true) (λ _. refl) (λ _. refl)

  caught-reached : (x : Label W) → is_reached (caught_label caught x) ≡ is_reached x
  caught-reached Unreached = refl
  caught-reached Bad = refl
  caught-reached (Frame l s) = refl

  module _ (code : Code) (made : ℕ × Instr → List W) (arguments : List W) (edges : List Edge) where
    pub looked-reached : (i : Option (ℕ × Instr)) (x : Label W) → is_reached (option_map_or (λ j. moved none code.max_stack (made j) (effect_of j.1) x) i x) ≡ is_reached x
    looked-reached None x = refl
    looked-reached (Some i) x = moved-reached code.max_stack (made i) (effect_of i.1) x

    carry-reached : (e : Edge) (x : Label W) → is_reached (moved_along none caught code made e x) ≡ is_reached x
    carry-reached e x =
        cond_both e.2 (caught_label caught x) (moved_after none code made e.0 x) (λ v. is_reached v ≡ is_reached x)
        (λ _. caught-reached x)
        (λ _. looked-reached (slice_get code.instrs e.0) x)

    first-reached : (p : ℕ) → is_reached (first_words none code arguments p) ≡ (p == 0)
    first-reached p = first-chosen (p == 0) where
      first-chosen : (t : Bool) → is_reached (if t then entry_words none code arguments else Unreached) ≡ t
      first-chosen true = refl
      first-chosen false = refl

    pub reaches-moved : 0 < length code.instrs → All (λ e. (e.0 < length code.instrs) × (e.1 < length code.instrs)) edges → (p : ℕ) → Reaches edges p →
        is_unreached (solution (moves_problem w none caught code made arguments edges) p) ≡ false
    reaches-moved some within p reached =
        not-true (is_unreached (solution (moves_problem w none caught code made arguments edges) p))
        (reaches-passes (moves_problem w none caught code made arguments edges) is_reached join-reached carry-reached first-reached some (omega arith) within p reached)

    pub moved-reaches : (p : ℕ) → is_unreached (solution (moves_problem w none caught code made arguments edges) p) ≡ false → Reaches edges p
    moved-reaches p h =
        passes-reaches (moves_problem w none caught code made arguments edges) is_reached join-reached carry-reached first-reached p
        (not_from_false (is_unreached (solution (moves_problem w none caught code made arguments edges) p)) h)
