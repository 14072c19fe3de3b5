-- An instruction has a frame exactly where edges lead to it.
use Rattle.std.proofs.Common.{◌≡◌, ◌<◌, ℕ, true, false, List, [], ◌∷◌, length, zero, suc, slice_get, Option, Some, None, is_some, refl, sym, ap, ◌∙◌, arith}
use Rattle.std.specs.Option.{option_map_or}
use Rattle.std.proofs.lemmas.Bool.{both_ways}
use Rattle.fp_model.specs.declared.class.Code.{Code}
use Rattle.fp_model.specs.declared.class.Method.{Method}
use Rattle.fp_model.specs.declared.class.instr.Instr.{Instr}
use Rattle.fp_model.specs.declared.kind.Sort.{Sort}
use Rattle.fp_model.specs.SoundCode.{IsSoundMethod}
use Rattle.fp_facts.specs.declared.label.Label.{Label}
use Rattle.fp_facts.specs.declared.label.Label.TheVariants.{Unreached, Bad, Frame}
use Rattle.fp_facts.specs.Dataflow.{Reaches}
use Rattle.fp_facts.specs.Edges.{edges_of}
use Rattle.fp_facts.specs.Effects.{effect_of}
use Rattle.fp_facts.specs.Sorts.{argument_words, result_words}
use Rattle.fp_facts.specs.Transfer.{frame_before, is_bad, is_unreached, is_wrong, after, label_after}
use Rattle.fp_facts.proofs.ReachedKinds.{labelled-reaches, reaches-labelled}
use Rattle.fp_flow.proofs.EdgeLaws.{edges-within}
use Rattle.fp_kinds.specs.declared.frame.FrameKinds.{FrameKinds}
use Rattle.fp_kinds.specs.declared.frame.Kinds.{Kinds}
use Rattle.fp_kinds.specs.Kinds.{AreKinds, frame_of}
use Rattle.fp_kinds.proofs.Arguments.{sound-code, sound-some}

none_is_not_some : {X : Type 0} {x : X} → None ≡ Some x → ⊥
none_is_not_some h = both_ways false refl (ap is_some h)

some-one : {X : Type 0} {x y : X} → Some x ≡ Some y → x ≡ y
some-one {x = x} h = ap (λ o. option_map_or (λ v. v) o x) h

slice_get-within : {X : Type 0} (xs : List X) (k : ℕ) → k < length xs → (x : X) × (slice_get xs k ≡ Some x)
slice_get-within [] k h = absurd (omega (arith, h))
slice_get-within (x ∷ xs) zero h = (x, refl)
slice_get-within (x ∷ xs) (suc k) h = slice_get-within xs k (omega (arith, h))

-- behind a bad label is a bad one
after-bad : (code : Code) (results : List Sort) (number : ℕ) (i : ℕ × Instr) → slice_get code.instrs number ≡ Some i → is_bad (label_after code results number Bad) ≡ true
after-bad code results number i is =
    ap (λ (o : Option (ℕ × Instr)). is_bad (option_map_or (λ i. after code.max_stack (is_wrong (length code.instrs) number results i.1) (effect_of i.1) Bad) o Bad)) is

good-frame : (x : Label Sort) → is_bad x ≡ false → is_unreached x ≡ false → (frame : FrameKinds) × (frame_of x ≡ Some frame)
good-frame Unreached h k = absurd (both_ways true k refl)
good-frame Bad h k = absurd (both_ways true h refl)
good-frame (Frame l s) h k = (record { locals = l; stack = s }, refl)

frame-labelled : (x : Label Sort) (frame : FrameKinds) → frame_of x ≡ Some frame → is_unreached x ≡ false
frame-labelled Unreached frame h = absurd (none_is_not_some h)
frame-labelled Bad frame h = refl
frame-labelled (Frame l s) frame h = refl

-- a label that doesn't fail isn't bad
good-label : (code : Code) (results : List Sort) (number : ℕ) (x : Label Sort) → number < length code.instrs → is_bad (label_after code results number x) ≡ false → is_bad x ≡ false
good-label code results number Unreached h k = refl
good-label code results number Bad h k =
    let there = slice_get-within code.instrs number h in absurd (both_ways _ k (after-bad code results number there.0 there.1))
good-label code results number (Frame l s) h k = refl

module _ (m : Method) (code : Code) (k : Kinds) (sound : IsSoundMethod m) (is : m.code ≡ Some code) (kinds : AreKinds m code k) where
  pub frames-reached : (number : ℕ) → number < length code.instrs → Reaches (edges_of code) number → (frame : FrameKinds) × (slice_get k.frames number ≡ Some (Some frame))
  unfolding frame_before
  frames-reached number h reached =
      let good : is_bad (frame_before m code number) ≡ false = good-label code (result_words m.kinds.result) number (frame_before m code number) h (kinds.kinded number h) in
      let labelled : is_unreached (frame_before m code number) ≡ false =
      reaches-labelled code (argument_words m) (result_words m.kinds.result) (edges_of code) (sound-some m code sound is) (edges-within code (sound-code m code sound is)) number reached in
      let frame = good-frame (frame_before m code number) good labelled in
      (frame.0, kinds.frames number h ∙ ap Some frame.1)

  pub frames-reach : (number : ℕ) (frame : FrameKinds) → number < length code.instrs → slice_get k.frames number ≡ Some (Some frame) → Reaches (edges_of code) number
  unfolding frame_before
  frames-reach number frame h there =
      labelled-reaches code (argument_words m) (result_words m.kinds.result) (edges_of code) number
      (frame-labelled (frame_before m code number) frame (some-one (sym (kinds.frames number h) ∙ there)))
