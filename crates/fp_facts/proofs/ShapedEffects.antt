-- In code that does not fail, moved words keep to the shape of their kinds.
use Rattle.std.proofs.Common.{◌≡◌, ℕ, ◌&&◌, not, Bool, true, false, nat_le, List, [], length, map, Option, Some, None, cond, refl, sym, ap, ◌∙◌}
use Rattle.std.specs.List.{slice_get}
use Rattle.std.specs.Option.{option_map_or}
use Rattle.std.proofs.lemmas.List.{length-map}
use Rattle.fp_model.specs.declared.class.Code.{Code}
use Rattle.fp_model.specs.declared.class.instr.Instr.{Instr}
use Rattle.fp_model.specs.declared.kind.Sort.{Sort}
use Rattle.fp_facts.specs.declared.effect.Effect.{Effect}
use Rattle.fp_facts.specs.declared.label.Label.{Label}
use Rattle.fp_facts.specs.declared.label.Label.TheVariants.{Unreached, Bad, Frame}
use Rattle.fp_facts.specs.Dataflow.{Edge}
use Rattle.fp_facts.specs.Effects.{effect_of}
use Rattle.fp_facts.specs.Moves.{caught_label, moved, moved_after, moved_along, moved_locals, moved_stack}
use Rattle.fp_facts.specs.Origins.{made_sorts}
use Rattle.fp_facts.specs.Sorts.{has_unset}
use Rattle.fp_facts.specs.Transfer.{after, capped, carried, effect_label, is_bad, is_unreached, is_wrong, label_after, to_handler}
use Rattle.fp_facts.proofs.LabelShapes.{Point, point, points, same-points, shape, shape-unreached}
use Rattle.fp_facts.proofs.MeasuredEffects.{IsMeasured, effect-measured}
use Rattle.fp_facts.proofs.ReachedMoves.{looked-reached}

-- the words that an instruction makes, as points
abbrev pub made_points : ℕ × Instr → List Point
made_points i = map point (made_sorts (effect_of i.1))

frame-shaped : (most : ℕ) (l s : List Point) (m t : List Sort) → length l ≡ length m → length s ≡ length t →
    cond (nat_le (length s) most) (Frame l s) Bad ≡ shape (capped most (Frame m t))
frame-shaped most l s m t locals stack = chosen (nat_le (length s) most) (nat_le (length t) most) (ap (λ n. nat_le n most) stack) where
  words : (k : List Point) (n : List Sort) → length k ≡ length n → k ≡ map point n
  words k n long = same-points k (map point n) (long ∙ sym (length-map n point))

  both : Frame l s ≡ Frame (map point m) (map point t)
  both = let first = words l m locals in let second = words s t stack in cc

  chosen : (a b : Bool) → a ≡ b → cond a (Frame l s) Bad ≡ shape (cond b (Frame m t) Bad)
  chosen true true same = both
  chosen true false same = absurd cc
  chosen false true same = absurd cc
  chosen false false same = refl

measured-shaped : (most : ℕ) (l s : List Point) (v : Label Sort) → IsMeasured (length l) (length s) v → is_bad (capped most v) ≡ false →
    cond (nat_le (length s) most) (Frame l s) Bad ≡ shape (capped most v)
measured-shaped most l s Unreached known good = absurd known
measured-shaped most l s Bad known good = absurd cc
measured-shaped most l s (Frame m t) known good = frame-shaped most l s m t known.0 known.1

after-shaped : (most : ℕ) (wrong : Bool) (e : Effect) (x : Label Sort) → is_bad (after most wrong e x) ≡ false →
    moved tt most (map point (made_sorts e)) e (shape x) ≡ shape (after most wrong e x)
after-shaped most wrong e Unreached good = refl
after-shaped most wrong e Bad good = refl
after-shaped most wrong e (Frame l t) good = passed (not wrong && (nat_le (length t) most && not (has_unset t))) good where
  passed : (test : Bool) → is_bad (cond test (capped most (effect_label e l t)) Bad) ≡ false →
      moved tt most (map point (made_sorts e)) e (shape (Frame l t)) ≡ shape (cond test (capped most (effect_label e l t)) Bad)
  passed true h =
      measured-shaped most (moved_locals e (map point l) (map point t)) (moved_stack tt (map point (made_sorts e)) e (map point l) (map point t)) (effect_label e l t)
      (effect-measured tt l t (map point l) (map point t) (length-map l point) (length-map t point) (map point (made_sorts e)) e (length-map (made_sorts e) point))
      h
  passed false h = absurd cc

looked-shaped : (most instrs number : ℕ) (results : List Sort) (i : Option (ℕ × Instr)) (x : Label Sort) →
    is_bad (option_map_or (λ j. after most (is_wrong instrs number results j.1) (effect_of j.1) x) i x) ≡ false →
    option_map_or (λ j. moved tt most (made_points j) (effect_of j.1) (shape x)) i (shape x)
    ≡ shape (option_map_or (λ j. after most (is_wrong instrs number results j.1) (effect_of j.1) x) i x)
looked-shaped most instrs number results None x good = refl
looked-shaped most instrs number results (Some i) x good = after-shaped most (is_wrong instrs number results i.1) (effect_of i.1) x good

handler-shaped : (x v : Label Sort) → is_unreached v ≡ is_unreached x → is_bad v ≡ false → caught_label tt (shape x) ≡ shape (to_handler x v)
handler-shaped Unreached Unreached same good = refl
handler-shaped Bad Unreached same good = absurd cc
handler-shaped (Frame l s) Unreached same good = absurd cc
handler-shaped x Bad same good = absurd cc
handler-shaped Unreached (Frame m t) same good = refl
handler-shaped Bad (Frame m t) same good = refl
handler-shaped (Frame l s) (Frame m t) same good = refl

module _ (code : Code) (results : List Sort) where
  after_number-shaped : (number : ℕ) (x : Label Sort) → is_bad (label_after code results number x) ≡ false →
      moved_after tt code made_points number (shape x) ≡ shape (label_after code results number x)
  after_number-shaped number x good = looked-shaped code.max_stack (length code.instrs) number results (slice_get code.instrs number) x good

  pub carry-shaped : (e : Edge) (x : Label Sort) → is_bad (label_after code results e.0 x) ≡ false →
      moved_along tt tt code made_points e (shape x) ≡ shape (carried e.2 x (label_after code results e.0 x))
  carry-shaped e x good = chosen e.2 where
    behind : moved_after tt code made_points e.0 (shape x) ≡ shape (label_after code results e.0 x)
    behind = after_number-shaped e.0 x good

    as_reached : not (is_unreached (moved_after tt code made_points e.0 (shape x))) ≡ not (is_unreached (shape x))
    as_reached = looked-reached points tt tt code made_points [] [] (slice_get code.instrs e.0) (shape x)

    same_test : (a b : Bool) → not a ≡ not b → a ≡ b
    same_test true true h = refl
    same_test true false h = absurd cc
    same_test false true h = absurd cc
    same_test false false h = refl

    same : is_unreached (label_after code results e.0 x) ≡ is_unreached x
    same =
        sym (shape-unreached (label_after code results e.0 x)) ∙ ap is_unreached (sym behind)
        ∙ same_test (is_unreached (moved_after tt code made_points e.0 (shape x))) (is_unreached (shape x)) as_reached
        ∙ shape-unreached x

    chosen : (handler : Bool) → cond handler (caught_label tt (shape x)) (moved_after tt code made_points e.0 (shape x)) ≡ shape (carried handler x (label_after code results e.0 x))
    chosen true = handler-shaped x (label_after code results e.0 x) same good
    chosen false = behind
