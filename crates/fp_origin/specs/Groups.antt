-- The origins of a code by groups of at most 64: a word of 64 bits tells which origins of the group a frame's word may come from.
use Rattle.std.specs.Prelude.{◌≡◌, ℕ, ◌+◌, ◌-◌, ◌*◌, ◌==◌, nat_lt, Bool, true, List, [], ◌∷◌, ◌++◌, length, map, slice_get, slice_index_or, Option, Some, None, if◌then◌else◌}
use Rattle.std.specs.Int.{bit_at}
use Rattle.fp_model.specs.declared.class.Code.{Code}
use Rattle.fp_model.specs.declared.class.Method.{Method}
use Rattle.fp_model.specs.declared.class.instr.Instr.{Instr}
use Rattle.fp_model.specs.declared.kind.Kind.{Kind}
use Rattle.fp_model.specs.declared.kind.Sort.{Sort}
use Rattle.fp_model.specs.declared.kind.Sort.TheVariants.{Ref}
use Rattle.fp_facts.specs.declared.label.Label.{Label}
use Rattle.fp_facts.specs.declared.label.Label.TheVariants.{Unreached}
use Rattle.fp_facts.specs.declared.origin.Origin.{Origin}
use Rattle.fp_facts.specs.declared.origin.Origin.TheVariants as origin
use Rattle.fp_facts.specs.Bits.{words64}
use Rattle.fp_facts.specs.Dataflow.{Edge, Problem}
use Rattle.fp_facts.specs.Effects.{effect_of}
use Rattle.fp_facts.specs.Moves.{map_label, moves_problem, same_label_shape}
use Rattle.fp_facts.specs.Origins.{entry_origins, made_words, marks_before, same_origin}
use Rattle.fp_facts.specs.Sorts.{same_sort, sort_of, words_of}
use Rattle.fp_facts.specs.Transfer.{frame_before}
use Rattle.fp_origin.specs.declared.group.transfers.Transfer.{Transfer}

-- the bits of an origin in a group, none where it is not there
abbrev pub bits_in : List Origin → Origin → ℕ
bits_in [] o = 0
bits_in (g ∷ group) o = (if same_origin g o then 1 else 0) + 2 * bits_in group o

abbrev pub word_bits : List Origin → Option Origin → ℕ
word_bits group None = 0
word_bits group (Some o) = bits_in group o

-- the bit of a place in the group is set
abbrev pub has_bit : (place word : ℕ) → Bool
has_bit place word = bit_at word place == 1

abbrev pub group_problem : Method → Code → List Origin → List Edge → Problem (Label ℕ)
group_problem m code group edges =
    moves_problem words64 0 (bits_in group origin.Other) code (λ i. map (word_bits group) (made_words i.0 i.1)) (map (word_bits group) (entry_origins m)) edges

-- the labels before the instructions have the shapes of the frames, and tell for each origin of the group which words may come from it
pub record AreGroupLabels (m : Method) (code : Code) (group : List Origin) (labels : List (Label ℕ)) : Type 0 where
  pub long : length labels ≡ length code.instrs
  pub shaped : (number : ℕ) → same_label_shape (slice_index_or labels number Unreached) (frame_before m code number) ≡ true
  pub marks : (number place : ℕ) (o : Origin) → slice_get group place ≡ Some o
      → map_label (has_bit place) (slice_index_or labels number Unreached) ≡ marks_before m code o number

-- ---- what does not change while the labels are sought

-- words of these sorts, of which the references have the bits
abbrev pub reference_words : (bits : ℕ) → List Sort → List ℕ
reference_words bits sorts = map (λ s. if same_sort s Ref then bits else 0) sorts

-- the words of arguments from a number on
abbrev pub argument_bits : List Origin → (number : ℕ) → List Kind → List ℕ
argument_bits group number [] = []
argument_bits group number (k ∷ kinds) =
    reference_words (bits_in group (origin.Param number)) (words_of (sort_of k)) ++ argument_bits group (number + 1) kinds

-- what the instruction at an offset does to the words of a frame
abbrev pub transfer_of : List Origin → ℕ × Instr → Transfer
transfer_of group i = record { effect = effect_of i.1; made = map (word_bits group) (made_words i.0 i.1) }

-- the same problem, of arguments whose words are known
abbrev pub words_problem : Code → List Origin → (arguments : List ℕ) → List Edge → Problem (Label ℕ)
words_problem code group arguments edges =
    moves_problem words64 0 (bits_in group origin.Other) code (λ i. map (word_bits group) (made_words i.0 i.1)) arguments edges

-- the local variable at a place after words were written over those from another place on
abbrev pub written_word : (at place : ℕ) → List ℕ → ℕ → ℕ
written_word at place words old = if nat_lt place at then old else slice_index_or words (place - at) old
