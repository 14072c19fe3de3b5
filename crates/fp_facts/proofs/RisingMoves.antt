-- Moves keep the order of labels.
use Rattle.std.proofs.Common.{◌≡◌, ℕ, Bool, true, false, nat_le, List, [], ◌∷◌, length, Option, Some, None, cond, refl, ap, arith}
use Rattle.std.specs.List.{slice_get}
use Rattle.std.specs.Option.{option_map_or}
use Rattle.fp_model.specs.declared.class.Code.{Code}
use Rattle.fp_model.specs.declared.class.instr.Instr.{Instr}
use Rattle.fp_facts.specs.declared.effect.Effect.{Effect}
use Rattle.fp_facts.specs.declared.label.Label.{Label}
use Rattle.fp_facts.specs.declared.label.Label.TheVariants.{Unreached, Bad, Frame}
use Rattle.fp_facts.specs.Dataflow.{Edge}
use Rattle.fp_facts.specs.Effects.{effect_of}
use Rattle.fp_facts.specs.Frames.{join_labels, join_words}
use Rattle.fp_facts.specs.Lattices.{Lattice, IsLattice, IsBelow}
use Rattle.fp_facts.specs.Moves.{caught_label, moved, moved_after, moved_along, moved_locals, moved_stack, Zipped}
use Rattle.fp_facts.specs.Moves.Zipped.{no_words, more_words}
use Rattle.fp_facts.proofs.JoinedFrames.{below-frame, frame-below}
use Rattle.fp_facts.proofs.JoinedWords.{join_words-idem}
use Rattle.fp_facts.proofs.MovedWords.{locals_related, stack_related}
use Rattle.fp_facts.proofs.ZippedWords.{zipped-length}

module _ {W : Type 0} (w : Lattice W) (laws : IsLattice w) where
  zipped-below : (l m : List W) → length l ≡ length m → join_words w.join l m ≡ m → Zipped (IsBelow w) l m
  zipped-below [] [] long below = no_words
  zipped-below [] (y ∷ m) long below = absurd (omega arith)
  zipped-below (x ∷ l) [] long below = absurd (omega arith)
  zipped-below (x ∷ l) (y ∷ m) long below =
      let first : w.join x y ≡ y = cc in
      let rest : join_words w.join l m ≡ m = cc in
      let same : length l ≡ length m = omega arith in more_words first (zipped-below l m same rest)

  below-zipped : {l m : List W} → Zipped (IsBelow w) l m → join_words w.join l m ≡ m
  below-zipped no_words = refl
  below-zipped (more_words related rest) = let words = below-zipped rest in cc

  zipped-same : (l : List W) → Zipped (IsBelow w) l l
  zipped-same l = zipped-below l l refl (join_words-idem w laws l)

  bad-above : (x : Label W) → join_labels w.join x Bad ≡ Bad
  bad-above Unreached = refl
  bad-above Bad = refl
  bad-above (Frame l s) = refl

  -- one test, or none
  test-rises : (t u : Bool) (x y : Label W) → t ≡ u → join_labels w.join x y ≡ y → join_labels w.join (cond t x Bad) (cond u y Bad) ≡ cond u y Bad
  test-rises t false x y same below = bad-above (cond t x Bad)
  test-rises true true x y same below = below
  test-rises false true x y same below = absurd cc

  frame-rises : {l s m t : List W} → Zipped (IsBelow w) l m → Zipped (IsBelow w) s t → join_labels w.join (Frame l s) (Frame m t) ≡ Frame m t
  frame-rises {l} {s} {m} {t} h k =
      below-frame w laws l s m t (record {
        locals_long = zipped-length (IsBelow w) h;
        stack_long = zipped-length (IsBelow w) k;
        locals = below-zipped h;
        stack = below-zipped k;
      })

  module _ (none caught : W) where
    pub moved-rises : (most : ℕ) (made : List W) (e : Effect) (x y : Label W) → join_labels w.join x y ≡ y →
        join_labels w.join (moved none most made e x) (moved none most made e y) ≡ moved none most made e y
    moved-rises most made e Unreached y below = refl
    moved-rises most made e Bad y below = ap (λ v. moved none most made e v) below
    moved-rises most made e (Frame l s) Unreached below = absurd cc
    moved-rises most made e (Frame l s) Bad below = bad-above (moved none most made e (Frame l s))
    moved-rises most made e (Frame l s) (Frame m t) below =
        let known = frame-below w laws l s m t below in
        let locals = zipped-below l m known.locals_long known.locals in
        let stack = zipped-below s t known.stack_long known.stack in
        let behind = stack_related (IsBelow w) none none (laws.idempotent none) e (zipped-same made) locals stack in
        test-rises (nat_le (length (moved_stack none made e l s)) most) (nat_le (length (moved_stack none made e m t)) most)
        (Frame (moved_locals e l s) (moved_stack none made e l s)) (Frame (moved_locals e m t) (moved_stack none made e m t))
        (ap (λ n. nat_le n most) (zipped-length (IsBelow w) behind))
        (frame-rises (locals_related (IsBelow w) e locals stack) behind)

    pub caught-rises : (x y : Label W) → join_labels w.join x y ≡ y → join_labels w.join (caught_label caught x) (caught_label caught y) ≡ caught_label caught y
    caught-rises Unreached y below = refl
    caught-rises Bad y below = ap (λ v. caught_label caught v) below
    caught-rises (Frame l s) Unreached below = absurd cc
    caught-rises (Frame l s) Bad below = refl
    caught-rises (Frame l s) (Frame m t) below =
        let known = frame-below w laws l s m t below in frame-rises (zipped-below l m known.locals_long known.locals) (zipped-same (caught ∷ []))

    module _ (code : Code) (made : ℕ × Instr → List W) where
      looked-rises : (i : Option (ℕ × Instr)) (x y : Label W) → join_labels w.join x y ≡ y →
          join_labels w.join (option_map_or (λ j. moved none code.max_stack (made j) (effect_of j.1) x) i x) (option_map_or (λ j. moved none code.max_stack (made j) (effect_of j.1) y) i y)
          ≡ option_map_or (λ j. moved none code.max_stack (made j) (effect_of j.1) y) i y
      looked-rises None x y below = below
      looked-rises (Some i) x y below = moved-rises code.max_stack (made i) (effect_of i.1) x y below

      chosen-rises : (handler : Bool) (number : ℕ) (x y : Label W) → join_labels w.join x y ≡ y →
          join_labels w.join (cond handler (caught_label caught x) (moved_after none code made number x)) (cond handler (caught_label caught y) (moved_after none code made number y))
          ≡ cond handler (caught_label caught y) (moved_after none code made number y)
      chosen-rises true number x y below = caught-rises x y below
      chosen-rises false number x y below = looked-rises (slice_get code.instrs number) x y below

      pub moved_along-rises : (e : Edge) (x y : Label W) → join_labels w.join x y ≡ y →
          join_labels w.join (moved_along none caught code made e x) (moved_along none caught code made e y) ≡ moved_along none caught code made e y
      moved_along-rises e x y below = chosen-rises e.2 e.0 x y below
