-- An instruction has origins exactly where edges lead to it.
use Rattle.std.proofs.Common.{◌≡◌, ◌<◌, ℕ, true, false, List, All, length, slice_get, Some, None, is_some, IfSome, refl, sym, subst, ap, ◌∙◌}
use Rattle.std.specs.Option.{option_map_or}
use Rattle.std.proofs.lemmas.Bool.{both_ways}
use Rattle.fp_model.specs.declared.class.Code.{Code}
use Rattle.fp_model.specs.declared.class.Method.{Method}
use Rattle.fp_model.specs.declared.kind.Sort.{Sort}
use Rattle.fp_model.specs.SoundCode.{IsSoundCode, IsSoundMethod}
use Rattle.fp_facts.specs.declared.label.Label.{Label}
use Rattle.fp_facts.specs.declared.label.Label.TheVariants.{Unreached, Bad, Frame}
use Rattle.fp_facts.specs.declared.origin.Origin.{Origin}
use Rattle.fp_facts.specs.Dataflow.{Reaches}
use Rattle.fp_facts.specs.Edges.{edges_of}
use Rattle.fp_facts.specs.Kinded.{IsKindedCode}
use Rattle.fp_facts.specs.Origins.{frame_origins}
use Rattle.fp_facts.specs.Sorts.{argument_words, result_words}
use Rattle.fp_facts.specs.Transfer.{frame_before, is_bad, is_unreached}
use Rattle.fp_facts.proofs.ReachedKinds.{labelled-reaches, reaches-labelled}
use Rattle.fp_facts.proofs.ShapedMoves.{frame-good}
use Rattle.fp_facts.proofs.SoundEntries.{sound-some}
use Rattle.fp_flow.proofs.EdgeLaws.{edges-within}
use Rattle.fp_origin.specs.declared.answer.Origins.{Origins}
use Rattle.fp_origin.specs.Answers.{AreOrigins}

none_is_not_some : {X : Type 0} {x : X} → None ≡ Some x → ⊥
none_is_not_some h = both_ways false refl (ap is_some h)

some-one : {X : Type 0} {x y : X} → Some x ≡ Some y → x ≡ y
some-one {x = x} h = ap (λ o. option_map_or (λ v. v) o x) h

module _ (m : Method) (code : Code) (o : Origins) (sound : IsSoundMethod m) (is : m.code ≡ Some code) (kinded : IsKindedCode m code) (origins : AreOrigins m code o) where
  within : All (λ e. (e.0 < length code.instrs) × (e.1 < length code.instrs)) (edges_of code)
  within = edges-within code (subst (λ c. IfSome c IsSoundCode) is sound.code)

  framed : (number : ℕ) (x : Label Sort) → is_bad x ≡ false → is_unreached x ≡ false → (words : List (List Origin)) × (frame_origins m code number x ≡ Some words)
  framed number Unreached h k = absurd (both_ways true k refl)
  framed number Bad h k = absurd (both_ways true h refl)
  framed number (Frame l s) h k = (_, refl)

  labelled : (number : ℕ) (x : Label Sort) (words : List (List Origin)) → frame_origins m code number x ≡ Some words → is_unreached x ≡ false
  labelled number Unreached words h = absurd (none_is_not_some h)
  labelled number Bad words h = refl
  labelled number (Frame l s) words h = refl

  pub origins-reached : (number : ℕ) → number < length code.instrs → Reaches (edges_of code) number → (words : List (List Origin)) × (slice_get o.frames number ≡ Some (Some words))
  unfolding frame_before
  origins-reached number h reached =
      let there : is_unreached (frame_before m code number) ≡ false =
      reaches-labelled code (argument_words m) (result_words m.kinds.result) (edges_of code) (sound-some m code sound is) within number reached in
      let words = framed number (frame_before m code number) (frame-good m code sound is kinded within number) there in
      (words.0, origins.frames number h ∙ ap Some words.1)

  pub origins-reach : (number : ℕ) (words : List (List Origin)) → number < length code.instrs → slice_get o.frames number ≡ Some (Some words) → Reaches (edges_of code) number
  unfolding frame_before
  origins-reach number words h there =
      labelled-reaches code (argument_words m) (result_words m.kinds.result) (edges_of code) number
      (labelled number (frame_before m code number) words (some-one (sym (origins.frames number h) ∙ there)))
