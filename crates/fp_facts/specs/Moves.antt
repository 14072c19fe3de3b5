-- How an instruction moves the words of a frame, whatever these say (JVMS SE 21 section 6.5).
use Rattle.std.specs.Prelude.{ℕ, ◌+◌, ◌-◌, ◌==◌, nat_le, Bool, true, false, ◌&&◌, List, [], ◌∷◌, ◌++◌, length, map, take, replicate, slice_get, slice_index_or, if◌then◌else◌}
use Rattle.std.specs.Option.{option_map_or}
use Rattle.fp_model.specs.declared.class.Code.{Code}
use Rattle.fp_model.specs.declared.class.instr.Instr.{Instr}
use Rattle.fp_facts.specs.declared.effect.Effect.{Effect}
use Rattle.fp_facts.specs.declared.effect.Effect.TheVariants.{Loads, Stores, Counts, Keeps, Shuffles, Takes}
use Rattle.fp_facts.specs.declared.label.Label.{Label}
use Rattle.fp_facts.specs.declared.label.Label.TheVariants.{Unreached, Bad, Frame}
use Rattle.fp_facts.specs.Dataflow.{Edge, Problem}
use Rattle.fp_facts.specs.Effects.{effect_of}
use Rattle.fp_facts.specs.Frames.{frames}
use Rattle.fp_facts.specs.Lattices.{Lattice}
use Rattle.fp_facts.specs.Sorts.{words_of}
use Rattle.fp_facts.specs.Transfer.{shuffled, top_words, without_top}

-- words of any sort, written over those from a place on
abbrev pub written_at : {W : Type 0} → (at : ℕ) → (words locals : List W) → List W
written_at at words [] = []
written_at at [] (old ∷ l) = old ∷ l
written_at at (w ∷ words) (old ∷ l) = if at == 0 then w ∷ written_at 0 words l else old ∷ written_at (at - 1) (w ∷ words) l

-- the local variables behind an instruction
abbrev pub moved_locals : {W : Type 0} → Effect → (locals stack : List W) → List W
moved_locals (Stores s at) l t = written_at at (top_words (length (words_of s)) t) l
moved_locals (Loads s at) l t = l
moved_locals (Counts at) l t = l
moved_locals Keeps l t = l
moved_locals (Shuffles x) l t = l
moved_locals (Takes operands results) l t = l

-- the stack behind it, by the words of its results; `none` stands for a word that isn't there
abbrev pub moved_stack : {W : Type 0} → (none : W) → (made : List W) → Effect → (locals stack : List W) → List W
moved_stack none made (Loads s at) l t = t ++ map (λ i. slice_index_or l (at + i) none) (take (length (words_of s)) (0 ∷ 1 ∷ []))
moved_stack none made (Stores s at) l t = without_top (length (words_of s)) t
moved_stack none made (Counts at) l t = t
moved_stack none made Keeps l t = t
moved_stack none made (Shuffles x) l t = shuffled none x t
moved_stack none made (Takes operands results) l t = without_top (length operands) t ++ made

-- the label behind it; Bad where the stack has more words than it may
abbrev pub moved : {W : Type 0} → (none : W) → (most : ℕ) → (made : List W) → Effect → Label W → Label W
moved none most made e Unreached = Unreached
moved none most made e Bad = Bad
moved none most made e (Frame l t) =
    if nat_le (length (moved_stack none made e l t)) most then Frame (moved_locals e l t) (moved_stack none made e l t) else Bad

-- an exception handler gets the local variables before the instruction, and the raised object alone on the stack
abbrev pub caught_label : {W : Type 0} → (caught : W) → (before : Label W) → Label W
caught_label caught Unreached = Unreached
caught_label caught Bad = Bad
caught_label caught (Frame l t) = Frame l (caught ∷ [])

-- ---- the dataflow problem of words that are moved

-- the label behind the instruction of a number, by the words that each instruction makes anew
abbrev pub moved_after : {W : Type 0} → (none : W) → Code → (made : ℕ × Instr → List W) → ℕ → Label W → Label W
moved_after none code made number x =
    option_map_or (λ i. moved none code.max_stack (made i) (effect_of i.1) x) (slice_get code.instrs number) x

abbrev pub moved_along : {W : Type 0} → (none caught : W) → Code → (made : ℕ × Instr → List W) → Edge → Label W → Label W
moved_along none caught code made e x = if e.2 then caught_label caught x else moved_after none code made e.0 x

abbrev pub entry_words : {W : Type 0} → (none : W) → Code → (arguments : List W) → Label W
entry_words none code arguments = Frame (arguments ++ replicate (code.max_locals - length arguments) none) []

abbrev pub first_words : {W : Type 0} → (none : W) → Code → (arguments : List W) → ℕ → Label W
first_words none code arguments number = if number == 0 then entry_words none code arguments else Unreached

abbrev pub moves_problem : {W : Type 0} → Lattice W → (none caught : W) → Code → (made : ℕ × Instr → List W) → (arguments : List W) → List Edge → Problem (Label W)
moves_problem w none caught code made arguments edges = record {
  lattice = frames w code.max_locals (code.max_stack + 1);
  nodes = length code.instrs;
  edges = edges;
  carry = moved_along none caught code made;
  bottom = Unreached;
  first = first_words none code arguments;
}

-- ---- two frames side by side

-- two lists of one length, whose words are related place by place
pub data Zipped {W V : Type 0} (R : W → V → Type 0) : List W → List V → Type 0 where
  no_words : Zipped R [] []
  more_words : {x : W} {y : V} {l : List W} {m : List V} → R x y → Zipped R l m → Zipped R (x ∷ l) (y ∷ m)

-- the label with each word changed alike
abbrev pub map_label : {W V : Type 0} → (W → V) → Label W → Label V
map_label h Unreached = Unreached
map_label h Bad = Bad
map_label h (Frame l t) = Frame (map h l) (map h t)

-- no way leads to both, or both are frames of as many local variables and as many words on the stack
abbrev pub same_label_shape : {W V : Type 0} → Label W → Label V → Bool
same_label_shape Unreached Unreached = true
same_label_shape (Frame l s) (Frame m t) = (length l == length m) && (length s == length t)
same_label_shape _ _ = false
