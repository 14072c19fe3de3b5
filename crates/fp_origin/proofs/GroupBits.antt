-- The bits of origins in a group.
use Rattle.std.proofs.Common.{◌≡◌, ◌<◌, ◌≤◌, ◌+◌, ◌*◌, ◌^◌, nat_lt, ◌&&◌, ℕ, zero, suc, Bool, true, false, List, [], ◌∷◌, ◌++◌, length, map, drop, Option, Some, None, if◌then◌else◌, refl, sym, ap, ◌∙◌, arith}
use Rattle.std.specs.List.{list_all}
use Rattle.std.proofs.Math.Nat.{pow-succ'}
use Rattle.std.proofs.lemmas.Bool.{lt-ltb}
use Rattle.std.proofs.lemmas.List.{length-drop, map-append}
use Rattle.fp_model.specs.declared.class.Method.{Method}
use Rattle.fp_model.specs.declared.class.instr.Instr.{Instr}
use Rattle.fp_model.specs.declared.kind.Kind.{Kind}
use Rattle.fp_model.specs.declared.kind.Sort.{Sort}
use Rattle.fp_model.specs.declared.kind.Sort.TheVariants.{Ref}
use Rattle.fp_model.specs.declared.kind.Kind.TheVariants as kind
use Rattle.fp_model.specs.Flags.{is_static}
use Rattle.fp_model.specs.SoundCode.{kind_words, kind_words_all, method_words}
use Rattle.fp_facts.specs.declared.effect.Effect.{Effect}
use Rattle.fp_facts.specs.declared.origin.Origin.{Origin}
use Rattle.fp_facts.specs.declared.origin.Origin.TheVariants.{Param}
use Rattle.fp_facts.specs.Effects.{effect_of}
use Rattle.fp_facts.specs.Origins.{argument_origins, arguments_from, entry_origins, made_origin, made_sorts, made_words, same_origin}
use Rattle.fp_facts.specs.Sorts.{same_sort, sort_of, words_of}
use Rattle.fp_origin.specs.Groups.{argument_bits, bits_in, reference_words, word_bits}

-- ---- they fit

power-some : (n : ℕ) → 0 < 2 ^ n
power-some zero = omega arith
power-some (suc n) = omega (arith, pow-succ' 2 n, power-some n)

next-below : (t : Bool) (bits power : ℕ) → bits < power → (if t then 1 else 0) + 2 * bits < 2 * power
next-below true bits power h = omega (arith, h)
next-below false bits power h = omega (arith, h)

pub bits_in-below : (group : List Origin) (o : Origin) (n : ℕ) → length group ≤ n → bits_in group o < 2 ^ n
bits_in-below [] o n h = power-some n
bits_in-below (g ∷ group) o zero h = absurd (omega (arith, h))
bits_in-below (g ∷ group) o (suc n) h =
    omega (arith, pow-succ' 2 n, next-below (same_origin g o) (bits_in group o) (2 ^ n) (bits_in-below group o n (omega (arith, h))))

pub word_bits-below : (group : List Origin) (w : Option Origin) (n : ℕ) → length group ≤ n → word_bits group w < 2 ^ n
word_bits-below group None n h = power-some n
word_bits-below group (Some o) n h = bits_in-below group o n h

both : (t u : Bool) → t ≡ true → u ≡ true → (t && u) ≡ true
both true u h k = k
both false u h k = absurd cc

pub words-fit : (group : List Origin) (words : List (Option Origin)) → length group ≤ 64 → list_all (λ w. nat_lt w (2 ^ 64)) (map (word_bits group) words) ≡ true
words-fit group [] few = refl
words-fit group (w ∷ words) few = both _ _ (lt-ltb (word_bits group w) (2 ^ 64) (word_bits-below group w 64 few)) (words-fit group words few)

-- ---- words of references

chosen-bits : (group : List Origin) (o : Option Origin) (t : Bool) → word_bits group (if t then o else None) ≡ (if t then word_bits group o else 0)
chosen-bits group o true = refl
chosen-bits group o false = refl

reference-words : (group : List Origin) (o : Option Origin) (sorts : List Sort) →
    map (word_bits group) (map (λ s. if same_sort s Ref then o else None) sorts) ≡ reference_words (word_bits group o) sorts
reference-words group o [] = refl
reference-words group o (s ∷ sorts) =
    ap (λ w. w ∷ map (word_bits group) (map (λ s. if same_sort s Ref then o else None) sorts)) (chosen-bits group o (same_sort s Ref))
    ∙ ap (λ l. (if same_sort s Ref then word_bits group o else 0) ∷ l) (reference-words group o sorts)

-- those that an instruction makes anew
pub made-are : (group : List Origin) (pc : ℕ) (i : Instr) (e : Effect) (bits : ℕ) (words : List ℕ) → e ≡ effect_of i → bits ≡ word_bits group (made_origin pc i)
    → words ≡ reference_words bits (made_sorts e) → words ≡ map (word_bits group) (made_words pc i)
made-are group pc i e bits words h k are =
    are
    ∙ ap (λ n. reference_words n (made_sorts e)) k
    ∙ ap (λ (d : Effect). reference_words (word_bits group (made_origin pc i)) (made_sorts d)) h
    ∙ sym (reference-words group (made_origin pc i) (made_sorts (effect_of i)))

pub ruleset making = (made-are)

-- those of arguments
argument-bits : (group : List Origin) (n : ℕ) (kinds : List Kind) → argument_bits group n kinds ≡ map (word_bits group) (arguments_from n kinds)
argument-bits group n [] = refl
argument-bits group n (k ∷ kinds) =
    ap (λ l. l ++ argument_bits group (n + 1) kinds) (sym (reference-words group (Some (Param n)) (words_of (sort_of k))))
    ∙ ap (λ l. map (word_bits group) (argument_origins n k) ++ l) (argument-bits group (n + 1) kinds)
    ∙ sym (map-append (word_bits group) (argument_origins n k) (arguments_from (n + 1) kinds))

pub entry-static : (group : List Origin) (m : Method) (words : List ℕ) → is_static m.flags ≡ true → words ≡ argument_bits group 0 m.kinds.args → words ≡ map (word_bits group) (entry_origins m)
entry-static group m words h are =
    are ∙ argument-bits group 0 m.kinds.args
    ∙ ap (λ t. map (word_bits group) (if t then arguments_from 0 m.kinds.args else Some (Param 0) ∷ arguments_from 1 m.kinds.args)) (sym h)

pub entry-instance : (group : List Origin) (m : Method) (words : List ℕ) → is_static m.flags ≡ false → words ≡ bits_in group (Param 0) ∷ argument_bits group 1 m.kinds.args
    → words ≡ map (word_bits group) (entry_origins m)
entry-instance group m words h are =
    are ∙ ap (λ l. bits_in group (Param 0) ∷ l) (argument-bits group 1 m.kinds.args)
    ∙ ap (λ t. map (word_bits group) (if t then arguments_from 0 m.kinds.args else Some (Param 0) ∷ arguments_from 1 m.kinds.args)) (sym h)

some-words : (k : Kind) → 0 < kind_words k
some-words (kind.Int letter) = omega arith
some-words kind.Long = omega arith
some-words kind.Float = omega arith
some-words kind.Double = omega arith
some-words (kind.Class name) = omega arith
some-words (kind.Array dims element) = omega arith

kinds-few : (kinds : List Kind) → length kinds ≤ kind_words_all kinds
unfolding kind_words_all
kinds-few [] = omega arith
kinds-few (k ∷ kinds) = omega (arith, some-words k, kinds-few kinds)

pub numbers-static : (m : Method) (most : ℕ) → method_words m ≤ most → most < 65536 → 0 + length m.kinds.args ≤ 65535
numbers-static m most room few = omega (arith, room, few, kinds-few m.kinds.args)

pub numbers-instance : (m : Method) (most : ℕ) → method_words m ≤ most → most < 65536 → is_static m.flags ≡ false → 1 + length m.kinds.args ≤ 65535
numbers-instance m most room few h =
    let words : method_words m ≡ kind_words_all m.kinds.args + 1 = ap (λ t. kind_words_all m.kinds.args + (if t then 0 else 1)) h in
    omega (arith, room, few, words, kinds-few m.kinds.args)

pub ruleset entering = (entry-static, entry-instance, numbers-static, numbers-instance)

-- ---- the loop that finds them

pub bits-room : (group : List Origin) (o : Origin) (at bits : ℕ) → length group ≤ 64 → at < length group → bits ≡ bits_in (drop (at + 1) group) o → bits < 2 ^ 63
bits-room group o at bits few h is =
    omega (arith, is, bits_in-below (drop (at + 1) group) o 63 (omega (arith, few, h, length-drop (at + 1) group)))

pub ruleset fitting = (bits-room)
