-- What a sound method gives its frames: an instruction, and room for its arguments.
use Rattle.std.proofs.Common.{◌≡◌, ◌<◌, ◌≤◌, ℕ, Bool, true, false, List, [], ◌∷◌, length, Some, IfSome, refl, subst, arith, cond}
use Rattle.std.proofs.lemmas.Bool.{both_ways}
use Rattle.std.proofs.lemmas.List.{length-append, length-map}
use Rattle.fp_model.specs.declared.class.Code.{Code}
use Rattle.fp_model.specs.declared.class.Method.{Method}
use Rattle.fp_model.specs.declared.kind.Kind.{Kind}
use Rattle.fp_model.specs.declared.kind.Kind.TheVariants as kind
use Rattle.fp_model.specs.declared.kind.Sort.TheVariants.{Ref}
use Rattle.fp_model.specs.Flags.{is_static}
use Rattle.fp_model.specs.SoundCode.{ascend_from_0, kind_words, kind_words_all, method_words, pcs_of, IsSoundCode, IsSoundMethod}
use Rattle.fp_facts.specs.Sorts.{argument_words, sort_of, words_of, words_of_kinds}

length-words_of : (k : Kind) → length (words_of (sort_of k)) ≡ kind_words k
length-words_of (kind.Int letter) = refl
length-words_of kind.Long = refl
length-words_of kind.Float = refl
length-words_of kind.Double = refl
length-words_of (kind.Class name) = refl
length-words_of (kind.Array dims element) = refl

length-words_of_kinds : (kinds : List Kind) → length (words_of_kinds kinds) ≡ kind_words_all kinds
unfolding kind_words_all
length-words_of_kinds [] = refl
length-words_of_kinds (k ∷ kinds) =
    omega (arith, length-append (words_of (sort_of k)) (words_of_kinds kinds), length-words_of k, length-words_of_kinds kinds)

length-receiver : (static : Bool) → length (cond static [] (Ref ∷ [])) ≡ cond static 0 1
length-receiver true = refl
length-receiver false = refl

pub length-argument_words : (m : Method) → length (argument_words m) ≡ method_words m
length-argument_words m =
    omega (arith, length-append (cond (is_static m.flags) [] (Ref ∷ [])) (words_of_kinds m.kinds.args), length-receiver (is_static m.flags), length-words_of_kinds m.kinds.args)

ascending-some : (pcs : List ℕ) → ascend_from_0 pcs ≡ true → 0 < length pcs
ascending-some [] h = absurd (both_ways false refl h)
ascending-some (pc ∷ pcs) h = omega arith

module _ (m : Method) (code : Code) (sound : IsSoundMethod m) (is : m.code ≡ Some code) where
  pub sound-code : IsSoundCode code
  sound-code = subst (λ o. IfSome o IsSoundCode) is sound.code

  pub sound-room : length (argument_words m) ≤ code.max_locals
  sound-room =
      let room : method_words m ≤ code.max_locals = subst (λ o. IfSome o (λ c. method_words m ≤ c.max_locals)) is sound.arguments in
      omega (arith, room, length-argument_words m)

  pub sound-some : 0 < length code.instrs
  sound-some = omega (arith, ascending-some (pcs_of code) sound-code.pcs, length-map code.instrs (λ i. i.0))

pub ruleset sound = (sound-code)
