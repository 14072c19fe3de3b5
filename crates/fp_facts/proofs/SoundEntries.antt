-- A sound method has an instruction, and room for the words of its arguments.
use Rattle.std.proofs.Common.{◌≡◌, ◌<◌, ◌≤◌, ◌+◌, ℕ, Bool, true, false, List, [], ◌∷◌, length, map, Some, IfSome, if◌then◌else◌, refl, ap, subst, ◌∙◌, arith}
use Rattle.std.proofs.lemmas.List.{length-append}
use Rattle.std.proofs.lemmas.List.Concat.{flat_map-cons}
use Rattle.fp_model.specs.declared.class.Code.{Code}
use Rattle.fp_model.specs.declared.class.Method.{Method}
use Rattle.fp_model.specs.declared.class.instr.Instr.{Instr}
use Rattle.fp_model.specs.declared.kind.Kind.{Kind}
use Rattle.fp_model.specs.declared.kind.Kind.TheVariants.{Int, Long, Float, Double, Class, Array}
use Rattle.fp_model.specs.declared.kind.Sort.TheVariants.{Ref}
use Rattle.fp_model.specs.Flags.{is_static}
use Rattle.fp_model.specs.SoundCode.{ascend_from_0, IsSoundCode, IsSoundMethod, kind_words, kind_words_all, method_words}
use Rattle.fp_facts.specs.Sorts.{argument_words, sort_of, words_of, words_of_kinds}

some-instr : (instrs : List (ℕ × Instr)) → ascend_from_0 (map (λ i. i.0) instrs) ≡ true → 0 < length instrs
some-instr [] h = absurd cc
some-instr (i ∷ instrs) h = omega arith

length-kind : (k : Kind) → length (words_of (sort_of k)) ≡ kind_words k
length-kind (Int letter) = refl
length-kind Long = refl
length-kind Float = refl
length-kind Double = refl
length-kind (Class name) = refl
length-kind (Array dims element) = refl

length-kinds : (kinds : List Kind) → length (words_of_kinds kinds) ≡ kind_words_all kinds
unfolding kind_words_all
length-kinds [] = refl
length-kinds (k ∷ kinds) =
    ap length (flat_map-cons (λ kind. words_of (sort_of kind)) k kinds)
    ∙ length-append (words_of (sort_of k)) (words_of_kinds kinds)
    ∙ ap (λ n. n + length (words_of_kinds kinds)) (length-kind k)
    ∙ ap (λ n. kind_words k + n) (length-kinds kinds)

length-receiver : (is : Bool) → length (if is then [] else Ref ∷ []) ≡ (if is then 0 else 1)
length-receiver true = refl
length-receiver false = refl

length-argument_words : (m : Method) → length (argument_words m) ≡ method_words m
length-argument_words m =
    omega (arith, length-append (if is_static m.flags then [] else Ref ∷ []) (words_of_kinds m.kinds.args), length-receiver (is_static m.flags), length-kinds m.kinds.args)

module _ (m : Method) (code : Code) (sound : IsSoundMethod m) (is : m.code ≡ Some code) where
  pub sound-some : 0 < length code.instrs
  sound-some = let known : IsSoundCode code = subst (λ c. IfSome c IsSoundCode) is sound.code in some-instr code.instrs known.pcs

  pub sound-room : length (argument_words m) ≤ code.max_locals
  sound-room =
      let known : method_words m ≤ code.max_locals = subst (λ c. IfSome c (λ found. method_words m ≤ found.max_locals)) is sound.arguments in
      omega (arith, length-argument_words m)
