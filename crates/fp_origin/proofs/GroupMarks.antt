-- The labels of a group tell for each of its origins which words may come from it.
use Rattle.std.proofs.Common.{◌≡◌, ◌<◌, ◌≤◌, ◌+◌, ◌*◌, ◌/◌, ◌%◌, ◌==◌, max, bit_or, ℕ, zero, suc, Bool, true, false, ◌||◌, List, [], ◌∷◌, length, map, replicate, slice_get, slice_index_or, All, Option, Some, None, IfSome, Result, Ok, Err, IfOk, if◌then◌else◌, refl, sym, ap, subst, ◌∙◌, arith}
use Rattle.std.specs.Int.{bit_at}
use Rattle.std.specs.List.{list_all}
use Rattle.std.specs.Option.{option_map_or}
use Rattle.std.proofs.lemmas.Bool.{cond-false, ne_eqb}
use Rattle.std.proofs.lemmas.List.{length-append, length-map}
use Rattle.std.proofs.lemmas.Nat.Bits.{bit_at-lt, bit_at-suc, bit_at-zero, bit_at_lowest, bit_at_or}
use Rattle.fp_model.specs.declared.class.Code.{Code}
use Rattle.fp_model.specs.declared.class.Method.{Method}
use Rattle.fp_model.specs.declared.class.instr.Instr.{Instr}
use Rattle.fp_model.specs.declared.kind.Kind.{Kind}
use Rattle.fp_model.specs.declared.kind.Sort.TheVariants.{Ref}
use Rattle.fp_model.specs.Flags.{is_static}
use Rattle.fp_model.specs.SoundCode.{IsSoundCode, IsSoundMethod}
use Rattle.fp_facts.specs.declared.label.Label.{Label}
use Rattle.fp_facts.specs.declared.label.Label.TheVariants.{Unreached}
use Rattle.fp_facts.specs.declared.origin.Origin.{Origin}
use Rattle.fp_facts.specs.declared.origin.Origin.TheVariants.{Other, Param}
use Rattle.fp_facts.specs.Bits.{words64}
use Rattle.fp_facts.specs.Dataflow.{Edge, IsLawful, labels, solution}
use Rattle.fp_facts.specs.Edges.{edges_of}
use Rattle.fp_facts.specs.Effects.{effect_of}
use Rattle.fp_facts.specs.Kinded.{IsKindedCode}
use Rattle.fp_facts.specs.Moves.{entry_words, first_words, map_label, moves_problem, same_label_shape}
use Rattle.fp_facts.specs.Origins.{argument_origins, arguments_from, bools, entry_origins, made_sorts, made_words, marks_before, marks_of, same_origin}
use Rattle.fp_facts.specs.Sorts.{argument_words, same_sort, sort_of, words_of, words_of_kinds}
use Rattle.fp_facts.specs.Transfer.{frame_before}
use Rattle.fp_facts.proofs.LawfulMoves.{moves-lawful}
use Rattle.fp_facts.proofs.MappedMoves.{moves-mapped}
use Rattle.fp_facts.proofs.ShapedMoves.{moves-shaped}
use Rattle.fp_facts.proofs.SmallLattices.{bools-lattice}
use Rattle.fp_facts.proofs.SoundEntries.{sound-room, sound-some}
use Rattle.fp_flow.specs.Ascending.{IsAscending}
use Rattle.fp_flow.proofs.EdgeLaws.{edges-ascending, edges-within}
use Rattle.fp_origin.specs.Groups.{AreGroupLabels, bits_in, group_problem, has_bit, word_bits, words_problem}
use Rattle.fp_origin.proofs.GroupBits.{words-fit}
use Rattle.fp_origin.proofs.LawfulGroups.{group-lawful}

-- ---- the bit of a place

max-one : (a b : ℕ) → a < 2 → b < 2 → (max a b == 1) ≡ ((a == 1) || (b == 1))
max-one zero zero h k = refl
max-one zero (suc zero) h k = refl
max-one zero (suc (suc b)) h k = absurd (omega (arith, k))
max-one (suc zero) zero h k = refl
max-one (suc zero) (suc zero) h k = refl
max-one (suc zero) (suc (suc b)) h k = absurd (omega (arith, k))
max-one (suc (suc a)) b h k = absurd (omega (arith, h))

has_bit-or : (place x y : ℕ) → has_bit place (bit_or x y) ≡ (has_bit place x || has_bit place y)
has_bit-or place x y = ap (λ n. n == 1) (bit_at_or x y place) ∙ max-one (bit_at x place) (bit_at y place) (bit_at-lt x place) (bit_at-lt y place)

low : (t : Bool) (n : ℕ) → ((if t then 1 else 0) + 2 * n) % 2 ≡ (if t then 1 else 0)
low true n = omega arith
low false n = omega arith

half : (t : Bool) (n : ℕ) → ((if t then 1 else 0) + 2 * n) / 2 ≡ n
half true n = omega arith
half false n = omega arith

one-if : (t : Bool) → ((if t then 1 else 0) == 1) ≡ t
one-if true = refl
one-if false = refl

abbrev origin-in : Option Origin → Origin → Bool
origin-in None q = false
origin-in (Some o) q = same_origin o q

has_bit-in : (group : List Origin) (place : ℕ) (q : Origin) → has_bit place (bits_in group q) ≡ origin-in (slice_get group place) q
has_bit-in [] place q = ap (λ n. n == 1) (bit_at-zero place)
has_bit-in (g ∷ group) zero q =
    ap (λ n. n == 1) (bit_at_lowest (bits_in (g ∷ group) q) ∙ low (same_origin g q) (bits_in group q)) ∙ one-if (same_origin g q)
has_bit-in (g ∷ group) (suc place) q =
    ap (λ n. n == 1) (bit_at-suc (bits_in (g ∷ group) q) place) ∙ ap (has_bit place) (half (same_origin g q) (bits_in group q)) ∙ has_bit-in group place q

module _ (group : List Origin) (place : ℕ) (o : Origin) (there : slice_get group place ≡ Some o) where
  has_bit-origin : (q : Origin) → has_bit place (bits_in group q) ≡ same_origin o q
  has_bit-origin q = has_bit-in group place q ∙ ap (λ v. origin-in v q) there

  has_bit-word : (w : Option Origin) → has_bit place (word_bits group w) ≡ option_map_or (same_origin o) w false
  has_bit-word None = ap (λ n. n == 1) (bit_at-zero place)
  has_bit-word (Some q) = has_bit-origin q

  marks-are : (words : List (Option Origin)) → map (has_bit place) (map (word_bits group) words) ≡ marks_of o words
  marks-are [] = refl
  marks-are (w ∷ words) =
      ap (λ t. t ∷ map (has_bit place) (map (word_bits group) words)) (has_bit-word w) ∙ ap (λ l. option_map_or (same_origin o) w false ∷ l) (marks-are words)

-- ---- as many words as sorts

length-argument : (n : ℕ) (k : Kind) → length (argument_origins n k) ≡ length (words_of (sort_of k))
length-argument n k = length-map (words_of (sort_of k)) (λ s. if same_sort s Ref then Some (Param n) else None)

length-arguments : (n : ℕ) (kinds : List Kind) → length (arguments_from n kinds) ≡ length (words_of_kinds kinds)
length-arguments n [] = refl
length-arguments n (k ∷ kinds) =
    omega (arith, length-append (argument_origins n k) (arguments_from (n + 1) kinds), length-append (words_of (sort_of k)) (words_of_kinds kinds), length-argument n k, length-arguments (n + 1) kinds)

length-chosen : (static : Bool) (kinds : List Kind) →
    length (if static then arguments_from 0 kinds else Some (Param 0) ∷ arguments_from 1 kinds)
    ≡ length (if static then [] else Ref ∷ []) + length (words_of_kinds kinds)
length-chosen true kinds = omega (arith, length-arguments 0 kinds)
length-chosen false kinds = omega (arith, length-arguments 1 kinds)

length-entry : (m : Method) → length (entry_origins m) ≡ length (argument_words m)
length-entry m =
    length-chosen (is_static m.flags) m.kinds.args ∙ sym (length-append (if is_static m.flags then [] else Ref ∷ []) (words_of_kinds m.kinds.args))

length-made : (group : List Origin) (i : ℕ × Instr) → length (map (word_bits group) (made_words i.0 i.1)) ≡ length (made_sorts (effect_of i.1))
length-made group i = length-map (made_words i.0 i.1) (word_bits group) ∙ length-map (made_sorts (effect_of i.1)) _

length-words : (group : List Origin) (m : Method) → length (map (word_bits group) (entry_origins m)) ≡ length (argument_words m)
length-words group m = length-map (entry_origins m) (word_bits group) ∙ length-entry m

bools-fit : (l : List Bool) → list_all bools.fits l ≡ true
bools-fit [] = refl
bools-fit (x ∷ l) = bools-fit l

-- ---- the labels

module _ (m : Method) (code : Code) (group : List Origin) (sound : IsSoundMethod m) (is : m.code ≡ Some code) (few : length group ≤ 64) where
  abbrev made : ℕ × Instr → List ℕ
  made i = map (word_bits group) (made_words i.0 i.1)

  abbrev arguments : List ℕ
  arguments = map (word_bits group) (entry_origins m)

  within : All (λ e. (e.0 < length code.instrs) × (e.1 < length code.instrs)) (edges_of code)
  within = edges-within code (subst (λ c. IfSome c IsSoundCode) is sound.code)

  pub arguments-room : length arguments ≤ code.max_locals
  arguments-room = omega (arith, length-words group m, sound-room m code sound is)

  lawful : IsLawful (group_problem m code group (edges_of code))
  lawful = group-lawful code group arguments (edges_of code) few (sound-some m code sound is) arguments-room (words-fit group (entry_origins m) few) within

  others-lawful : (place : ℕ) →
      IsLawful (moves_problem bools (has_bit place 0) (has_bit place (bits_in group Other)) code (λ i. map (has_bit place) (made i)) (map (has_bit place) arguments) (edges_of code))
  others-lawful place =
      moves-lawful bools bools-lattice (has_bit place 0) (has_bit place (bits_in group Other)) code (λ i. map (has_bit place) (made i)) (map (has_bit place) arguments) (edges_of code)
      (sound-some m code sound is) (omega (arith, length-map arguments (has_bit place), arguments-room)) within
      refl refl (bools-fit (map (has_bit place) arguments)) (λ i. bools-fit (map (has_bit place) (made i)))

  group-shaped : IsKindedCode m code → (number : ℕ) → same_label_shape (solution (group_problem m code group (edges_of code)) number) (frame_before m code number) ≡ true
  group-shaped kinded number =
      moves-shaped m code sound is kinded within words64 0 (bits_in group Other) made arguments (length-words group m) (length-made group) lawful number

  group-marks : (number place : ℕ) (o : Origin) → slice_get group place ≡ Some o →
      map_label (has_bit place) (solution (group_problem m code group (edges_of code)) number) ≡ marks_before m code o number
  unfolding marks_before
  group-marks number place o there =
      sym (moves-mapped words64 bools (has_bit place) (has_bit-or place) 0 (bits_in group Other) code made arguments (edges_of code) lawful (others-lawful place) number)
      ∙ ap (λ t. solution (moves_problem bools t (has_bit place (bits_in group Other)) code (λ i. map (has_bit place) (made i)) (map (has_bit place) arguments) (edges_of code)) number)
      (has_bit-word group place o there None)
      ∙ ap (λ t. solution (moves_problem bools false t code (λ i. map (has_bit place) (made i)) (map (has_bit place) arguments) (edges_of code)) number)
      (has_bit-origin group place o there Other)
      ∙ ap (λ (f : ℕ × Instr → List Bool). solution (moves_problem bools false (same_origin o Other) code f (map (has_bit place) arguments) (edges_of code)) number)
      (let same : (λ (i : ℕ × Instr). map (has_bit place) (made i)) ≡ (λ (i : ℕ × Instr). marks_of o (made_words i.0 i.1)) = λ j i. marks-are group place o there (made_words i.0 i.1) j in same)
      ∙ ap (λ (l : List Bool). solution (moves_problem bools false (same_origin o Other) code (λ i. marks_of o (made_words i.0 i.1)) l (edges_of code)) number)
      (marks-are group place o there (entry_origins m))

  -- what the solver's answer says
  pub solved-labels : (words : List ℕ) (flow es : List Edge) (xs : List (Label ℕ)) → IsKindedCode m code → words ≡ arguments → es ≡ flow → flow ≡ edges_of code
      → length xs ≡ length code.instrs → labels (words_problem code group words es) xs ≡ solution (words_problem code group words es) → AreGroupLabels m code group xs
  solved-labels words flow es xs kinded w h k long same =
      let are : (number : ℕ) → slice_index_or xs number Unreached ≡ solution (group_problem m code group (edges_of code)) number = λ number.
      ap (λ (f : ℕ → Label ℕ). f number) same
      ∙ ap (λ (l : List ℕ). solution (words_problem code group l es) number) w
      ∙ ap (λ (l : List Edge). solution (words_problem code group arguments l) number) (h ∙ k) in
      record {
        long = long;
        shaped = λ number. subst (λ (x : Label ℕ). same_label_shape x (frame_before m code number) ≡ true) (sym (are number)) (group-shaped kinded number);
        marks = λ number place o there. ap (map_label (has_bit place)) (are number) ∙ group-marks number place o there;
      }

  -- the laws of the problem that is solved
  pub solver-laws : (words : List ℕ) (flow es : List Edge) → words ≡ arguments → es ≡ flow → flow ≡ edges_of code → IsLawful (words_problem code group words es)
  solver-laws words flow es w h k =
      subst (λ (l : List ℕ). IsLawful (words_problem code group l es)) (sym w)
      (subst (λ (l : List Edge). IsLawful (words_problem code group arguments l)) (sym (h ∙ k)) lawful)

pub solver-ascending : (code : Code) (flow es : List Edge) → es ≡ flow → flow ≡ edges_of code → IsAscending es
solver-ascending code flow es h k = subst IsAscending (sym (h ∙ k)) (edges-ascending code)

-- the first labels
none-later : (n p : ℕ) → slice_index_or (replicate {A = Label ℕ} n Unreached) p Unreached ≡ Unreached
none-later zero p = refl
none-later (suc n) zero = refl
none-later (suc n) (suc p) = none-later n p

module _ (code : Code) (words : List ℕ) where
  first-at : (n p : ℕ) → slice_index_or (entry_words 0 code words ∷ replicate n Unreached) p Unreached ≡ first_words 0 code words p
  first-at n zero = refl
  first-at n (suc p) = none-later n p ∙ sym (cond-false (suc p == 0) (entry_words 0 code words) Unreached (ne_eqb (suc p) 0 (λ is. omega (arith, is))))

  pub solver-first : (group : List Origin) (given : List ℕ) (es : List Edge) (entry : Label ℕ) (xs : List (Label ℕ)) (n : ℕ) → given ≡ words
      → entry ≡ entry_words 0 code words → xs ≡ entry ∷ replicate n Unreached → labels (words_problem code group given es) xs ≡ (words_problem code group given es).first
  solver-first group given es entry xs n a e x =
      let there : (p : ℕ) → slice_index_or xs p Unreached ≡ first_words 0 code given p = λ p.
      ap (λ (l : List (Label ℕ)). slice_index_or l p Unreached) (x ∙ ap (λ (v : Label ℕ). v ∷ replicate n Unreached) e)
      ∙ first-at n p
      ∙ ap (λ (l : List ℕ). first_words 0 code l p) (sym a) in
      λ j p. there p j

-- two clauses on one answer
pub ok-both : {X E : Type 0} (r : Result X E) (P Q R : X → Type 0) → ((x : X) → P x → Q x → R x) → IfOk r P → IfOk r Q → IfOk r R
ok-both (Ok x) P Q R f h k = f x h k
ok-both (Err e) P Q R f h k = tt
