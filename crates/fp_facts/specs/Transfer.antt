-- What an instruction makes of the kinds of a frame's words, and the frames of a code (JVMS SE 21 section 4.10.2.2).
use Rattle.std.specs.Prelude.{ℕ, ◌+◌, ◌-◌, ◌==◌, nat_le, nat_lt, Bool, true, false, not, ◌&&◌, ◌||◌, List, [], ◌∷◌, ◌++◌, length, map, take, drop, replicate, slice_get, slice_index_or, if◌then◌else◌}
use Rattle.std.specs.List.{list_all}
use Rattle.std.specs.Option.{option_map_or}
use Rattle.fp_model.specs.declared.class.Code.{Code}
use Rattle.fp_model.specs.declared.class.Method.{Method}
use Rattle.fp_model.specs.declared.class.instr.Instr.{Instr}
use Rattle.fp_model.specs.declared.class.instr.Instr.TheVariants as instr
use Rattle.fp_model.specs.declared.kind.Sort.{Sort}
use Rattle.fp_model.specs.declared.kind.Sort.TheVariants.{Int, Ref, Half, Unset}
use Rattle.fp_facts.specs.declared.effect.Effect.{Effect}
use Rattle.fp_facts.specs.declared.effect.Effect.TheVariants.{Loads, Stores, Counts, Keeps, Shuffles, Takes}
use Rattle.fp_facts.specs.declared.effect.Shuffling.{Shuffling}
use Rattle.fp_facts.specs.declared.label.Label.{Label}
use Rattle.fp_facts.specs.declared.label.Label.TheVariants.{Unreached, Bad, Frame}
use Rattle.fp_facts.specs.Dataflow.{Edge, Problem, solution}
use Rattle.fp_facts.specs.Edges.{edges_of, falls_through}
use Rattle.fp_facts.specs.Effects.{effect_of, return_takes}
use Rattle.fp_facts.specs.Frames.{frames}
use Rattle.fp_facts.specs.Sorts.{argument_words, has_unset, is_wide, result_words, same_sort, same_sorts, sorts, words_of}

-- ---- words of a frame, of any sort

-- the stack without so many words on top, and these words, the lowest first
abbrev pub without_top : {W : Type 0} → ℕ → List W → List W
without_top n s = take (length s - n) s

abbrev pub top_words : {W : Type 0} → ℕ → List W → List W
top_words n s = drop (length s - n) s

-- the word at a depth, where 1 is the top
abbrev pub at_depth : {W : Type 0} → W → List W → ℕ → W
at_depth none s depth = slice_index_or s (length s - depth) none

abbrev pub shuffled : {W : Type 0} → W → Shuffling → List W → List W
shuffled none x s = without_top x.takes s ++ map (at_depth none s) x.order

-- ---- the effect of an instruction on kinds

-- the stack ends with words of these sorts
abbrev pub ends_with : List Sort → List Sort → Bool
ends_with s words = nat_le (length words) (length s) && same_sorts (top_words (length words) s) words

-- the local variables hold a value of a sort; what is Unset is none
abbrev pub holds_local : List Sort → (at : ℕ) → Sort → Bool
holds_local l at s =
    not (same_sort s Unset) && (same_sort (slice_index_or l at Unset) s && (not (is_wide s) || same_sort (slice_index_or l (at + 1) Unset) Half))

-- no value of two words is cut
abbrev pub cuts_none : List Sort → List ℕ → Bool
cuts_none s depths = list_all (λ depth. not (same_sort (at_depth Unset s depth) Half)) depths

-- the local variable at p after a value of a sort was stored; the other word of a value that loses one of its two holds nothing any more
abbrev pub stored_word : Sort → (at p : ℕ) → Sort → Sort
stored_word s at p old =
    if p == at then s
    else if is_wide s && (p == at + 1) then Half
    else if (p + 1 == at) && is_wide old then Unset
    else if (p == at + length (words_of s)) && same_sort old Half then Unset
    else old

-- those from the number p on
abbrev pub stored_from : Sort → (at p : ℕ) → List Sort → List Sort
stored_from s at p [] = []
stored_from s at p (old ∷ l) = stored_word s at p old ∷ stored_from s at (p + 1) l

-- the frame that is left, and Bad where an operand is missing or of another sort
abbrev pub effect_label : Effect → (locals stack : List Sort) → Label Sort
effect_label (Loads s at) l t = if holds_local l at s then Frame l (t ++ words_of s) else Bad
effect_label (Stores s at) l t = if ends_with t (words_of s) then Frame (stored_from s at 0 l) (without_top (length (words_of s)) t) else Bad
effect_label (Counts at) l t = if holds_local l at Int then Frame l t else Bad
effect_label Keeps l t = if ends_with t (Ref ∷ []) then Frame l t else Bad
effect_label (Shuffles x) l t = if nat_le x.takes (length t) && cuts_none t x.cuts then Frame l (shuffled Unset x t) else Bad
effect_label (Takes operands results) l t = if ends_with t operands then Frame l (without_top (length operands) t ++ results) else Bad

-- ---- the label behind an instruction

-- Bad where the stack has more words than it may
abbrev pub capped : ℕ → Label Sort → Label Sort
capped most Unreached = Unreached
capped most Bad = Bad
capped most (Frame l t) = if nat_le (length t) most then Frame l t else Bad

-- `wrong` is what is wrong with the instruction whatever the frame is
abbrev pub after : (most : ℕ) → (wrong : Bool) → Effect → Label Sort → Label Sort
after most wrong e Unreached = Unreached
after most wrong e Bad = Bad
after most wrong e (Frame l t) = if not wrong && (nat_le (length t) most && not (has_unset t)) then capped most (effect_label e l t) else Bad

-- control goes on past the end of the code, or what is returned is not of the method's type (section 4.10.1.6)
abbrev pub is_wrong : (instrs number : ℕ) → (results : List Sort) → Instr → Bool
is_wrong instrs number results (instr.Return op) = not (same_sorts (return_takes op) results)
is_wrong instrs number results i = falls_through i && not (nat_lt (number + 1) instrs)

-- the label behind the instruction of a number, in a method with results of these words
abbrev pub label_after : Code → (results : List Sort) → ℕ → Label Sort → Label Sort
label_after code results number x =
    option_map_or (λ i. after code.max_stack (is_wrong (length code.instrs) number results i.1) (effect_of i.1) x) (slice_get code.instrs number) x

-- ---- the dataflow problem of a code

-- a handler gets the local variables before the instruction, and the raised object alone on the stack (section 4.10.1.6)
abbrev pub to_handler : (before behind : Label Sort) → Label Sort
to_handler before Unreached = Unreached
to_handler before Bad = Bad
to_handler Unreached (Frame m t) = Unreached
to_handler Bad (Frame m t) = Bad
to_handler (Frame l s) (Frame m t) = Frame l (Ref ∷ [])

abbrev pub carried : (to_a_handler : Bool) → (before behind : Label Sort) → Label Sort
carried true before behind = to_handler before behind
carried false before behind = behind

-- at entry the arguments stand in the first local variables, and the stack is empty
abbrev pub entry_label : Code → (arguments : List Sort) → Label Sort
entry_label code arguments = Frame (arguments ++ replicate (code.max_locals - length arguments) Unset) []

abbrev pub first_label : Code → (arguments : List Sort) → ℕ → Label Sort
first_label code arguments number = if number == 0 then entry_label code arguments else Unreached

-- a handler's frame may have one word on the stack where no instruction may have any
abbrev pub kinds_problem : Code → (arguments results : List Sort) → List Edge → Problem (Label Sort)
kinds_problem code arguments results edges = record {
  lattice = frames sorts code.max_locals (code.max_stack + 1);
  nodes = length code.instrs;
  edges = edges;
  carry = λ e x. carried e.2 x (label_after code results e.0 x);
  bottom = Unreached;
  first = first_label code arguments;
}

-- ---- the frames of a method's code, and where it fails

-- the frame before the instruction of a number
unfoldable pub frame_before : Method → Code → ℕ → Label Sort
frame_before m code = solution (kinds_problem code (argument_words m) (result_words m.kinds.result) (edges_of code))

abbrev pub is_bad : {W : Type 0} → Label W → Bool
is_bad Unreached = false
is_bad Bad = true
is_bad (Frame l s) = false

abbrev pub is_unreached : {W : Type 0} → Label W → Bool
is_unreached Unreached = true
is_unreached Bad = false
is_unreached (Frame l s) = false

-- the instruction of a number is reached by a frame that it can't take
abbrev pub fails : Method → Code → ℕ → Bool
fails m code number = is_bad (label_after code (result_words m.kinds.result) number (frame_before m code number))
