-- Where each reference may come from: an argument, an allocation, the result of a call, or elsewhere.
use Rattle.std.specs.Prelude.{ℕ, ◌+◌, ◌==◌, Bool, true, false, ◌||◌, List, [], ◌∷◌, ◌++◌, length, map, filter, sum_by, slice_index_or, Option, Some, None, if◌then◌else◌}
use Rattle.std.specs.List.{flat_map, range_with_len}
use Rattle.std.specs.Option.{option_map_or, option_to_list}
use Rattle.fp_model.specs.declared.class.Code.{Code}
use Rattle.fp_model.specs.declared.class.Method.{Method}
use Rattle.fp_model.specs.declared.class.instr.Instr.{Instr}
use Rattle.fp_model.specs.declared.class.instr.Instr.TheVariants as instr
use Rattle.fp_model.specs.declared.kind.Kind.{Kind}
use Rattle.fp_model.specs.declared.kind.Sort.{Sort}
use Rattle.fp_model.specs.declared.kind.Sort.TheVariants.{Ref}
use Rattle.fp_model.specs.Flags.{is_static}
use Rattle.fp_facts.specs.declared.effect.Effect.{Effect}
use Rattle.fp_facts.specs.declared.effect.Effect.TheVariants.{Takes}
use Rattle.fp_facts.specs.declared.label.Label.{Label}
use Rattle.fp_facts.specs.declared.label.Label.TheVariants.{Unreached, Bad, Frame}
use Rattle.fp_facts.specs.declared.origin.Origin.{Origin}
use Rattle.fp_facts.specs.declared.origin.Origin.TheVariants as origin
use Rattle.fp_facts.specs.Dataflow.{Edge, Problem, solution}
use Rattle.fp_facts.specs.Edges.{edges_of}
use Rattle.fp_facts.specs.Effects.{effect_of}
use Rattle.fp_facts.specs.Lattices.{Lattice}
use Rattle.fp_facts.specs.Moves.{moves_problem}
use Rattle.fp_facts.specs.Sorts.{same_sort, sort_of, words_of}
use Rattle.fp_facts.specs.Transfer.{frame_before}

-- ---- one origin

abbrev pub same_origin : Origin → Origin → Bool
same_origin (origin.Param i) (origin.Param j) = i == j
same_origin (origin.New i) (origin.New j) = i == j
same_origin (origin.Result i) (origin.Result j) = i == j
same_origin origin.Other origin.Other = true
same_origin _ _ = false

-- the origin of a reference that the instruction at an offset makes; null has none, and what is moved keeps its own
abbrev pub made_origin : (pc : ℕ) → Instr → Option Origin
made_origin pc (instr.New class) = Some (origin.New pc)
made_origin pc (instr.NewArray dims element) = Some (origin.New pc)
made_origin pc (instr.InvokeVirtual class name descr kinds) = Some (origin.Result pc)
made_origin pc (instr.InvokeSpecial class name descr kinds) = Some (origin.Result pc)
made_origin pc (instr.InvokeStatic class name descr kinds) = Some (origin.Result pc)
made_origin pc (instr.InvokeInterface class name descr kinds) = Some (origin.Result pc)
made_origin pc (instr.InvokeDynamic name descr boot args) = Some (origin.Result pc)
made_origin pc instr.ConstRef = Some origin.Other
made_origin pc (instr.ArrayLoad op) = Some origin.Other
made_origin pc (instr.GetStatic class name descr k) = Some origin.Other
made_origin pc (instr.GetField class name descr k) = Some origin.Other
made_origin pc _ = None

-- the sorts of the words that an effect makes anew
abbrev pub made_sorts : Effect → List Sort
made_sorts (Takes operands results) = results
made_sorts _ = []

-- the words that an instruction makes anew, each with its origin where it is a reference that has one
abbrev pub made_words : ℕ → Instr → List (Option Origin)
made_words pc i = map (λ s. if same_sort s Ref then made_origin pc i else None) (made_sorts (effect_of i))

-- the words of an argument of a number, and those of arguments from a number on
abbrev pub argument_origins : (number : ℕ) → Kind → List (Option Origin)
argument_origins number k = map (λ s. if same_sort s Ref then Some (origin.Param number) else None) (words_of (sort_of k))

abbrev pub arguments_from : (number : ℕ) → List Kind → List (Option Origin)
arguments_from number [] = []
arguments_from number (k ∷ kinds) = argument_origins number k ++ arguments_from (number + 1) kinds

-- the words of a method's arguments
abbrev pub entry_origins : Method → List (Option Origin)
entry_origins m =
    if is_static m.flags then arguments_from 0 m.kinds.args
    else Some (origin.Param 0) ∷ arguments_from 1 m.kinds.args

-- ---- the dataflow problem of one origin: whether a word may come from it

abbrev pub join_bools : Bool → Bool → Bool
join_bools a b = a || b

abbrev pub bools : Lattice Bool
bools = record {
  join = join_bools;
  height = λ b. if b then 1 else 0;
  most = 1;
  fits = λ _. true;
}

-- the words that come from the origin
abbrev pub marks_of : Origin → List (Option Origin) → List Bool
marks_of o words = map (λ w. option_map_or (same_origin o) w false) words

abbrev pub origin_problem : Method → Code → Origin → List Edge → Problem (Label Bool)
origin_problem m code o edges =
    moves_problem bools false (same_origin o origin.Other) code (λ i. marks_of o (made_words i.0 i.1)) (marks_of o (entry_origins m)) edges

-- the marks of the words before the instruction of a number
unfoldable pub marks_before : Method → Code → Origin → ℕ → Label Bool
marks_before m code o = solution (origin_problem m code o (edges_of code))

-- ---- the origins of each word of a frame, whose words are the local variables and then the stack

abbrev pub label_words : {W : Type 0} → Label W → List W
label_words Unreached = []
label_words Bad = []
label_words (Frame l s) = l ++ s

-- the origins of words that have one
abbrev pub given_origins : List (Option Origin) → List Origin
given_origins words = flat_map option_to_list words

-- those that the instructions of a code make
abbrev pub made_in : Code → List Origin
made_in code = flat_map (λ i. given_origins (made_words i.0 i.1)) code.instrs

abbrev pub is_allocation : Origin → Bool
is_allocation (origin.New pc) = true
is_allocation _ = false

abbrev pub is_result : Origin → Bool
is_result (origin.Result pc) = true
is_result _ = false

-- all that a word may come from in a method, ascending
abbrev pub origins_of : Method → Code → List Origin
origins_of m code =
    given_origins (entry_origins m) ++ (filter is_allocation (made_in code) ++ (filter is_result (made_in code) ++ origin.Other ∷ []))

-- the origins of the word at a place of the frame before the instruction of a number, ascending
abbrev pub origins_at : Method → Code → (number place : ℕ) → List Origin
origins_at m code number place = filter (λ o. slice_index_or (label_words (marks_before m code o number)) place false) (origins_of m code)

-- those of all words of that frame, none where no way leads there
abbrev pub frame_origins : Method → Code → ℕ → Label Sort → Option (List (List Origin))
frame_origins m code number Unreached = None
frame_origins m code number Bad = None
frame_origins m code number (Frame l s) = Some (map (origins_at m code number) (range_with_len 0 (length l + length s)))

abbrev pub origins_before : Method → Code → ℕ → Option (List (List Origin))
origins_before m code number = frame_origins m code number (frame_before m code number)

-- the pairs of a word and an origin, over all frames
abbrev pub pairs_at : Method → Code → ℕ → ℕ
pairs_at m code number = option_map_or (λ words. sum_by length words) (origins_before m code number) 0

unfoldable pub origin_pairs : Method → Code → ℕ
origin_pairs m code = sum_by (pairs_at m code) (range_with_len 0 (length code.instrs))
