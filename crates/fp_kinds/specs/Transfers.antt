-- What does not change while frames are sought: the effect of each instruction, and what is wrong with it whatever its frame is.
use Rattle.std.specs.Prelude.{ℕ, ◌+◌, List, [], ◌∷◌, length}
use Rattle.fp_model.specs.declared.class.Code.{Code}
use Rattle.fp_model.specs.declared.class.instr.Instr.{Instr}
use Rattle.fp_model.specs.declared.kind.Sort.{Sort}
use Rattle.fp_facts.specs.Effects.{effect_of}
use Rattle.fp_facts.specs.Transfer.{is_wrong}
use Rattle.fp_kinds.specs.declared.transfer.Transfer.{Transfer}

-- those of instructions that stand in a row, by the number of the first, in a code of so many
unfoldable pub transfers_behind : (instrs : ℕ) → (results : List Sort) → (number : ℕ) → List (ℕ × Instr) → List Transfer
transfers_behind instrs results number [] = []
transfers_behind instrs results number (i ∷ is) =
    record { effect = effect_of i.1; wrong = is_wrong instrs number results i.1 } ∷ transfers_behind instrs results (number + 1) is

abbrev pub transfers_of : Code → (results : List Sort) → List Transfer
transfers_of code results = transfers_behind (length code.instrs) results 0 code.instrs
