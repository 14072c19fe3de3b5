-- The flow of control through a code (JVMS SE 21 sections 2.10, 3.12 and 4.10.2.2), by the numbers of its instructions.
use Rattle.std.specs.Prelude.{ℕ, ◌+◌, ◌==◌, nat_lt, nat_le, Bool, true, false, ◌&&◌, List, [], ◌∷◌, ◌++◌, length, map, filter, position, if◌then◌else◌}
use Rattle.std.specs.Option.{unwrap_or}
use Rattle.fp_model.specs.declared.class.Code.{Code}
use Rattle.fp_model.specs.declared.class.Guard.{Guard}
use Rattle.fp_model.specs.declared.class.instr.Instr.{Instr}
use Rattle.fp_model.specs.declared.class.instr.Instr.TheVariants as instr
use Rattle.fp_model.specs.SoundCode.{branches_to, pcs_of}
use Rattle.fp_facts.specs.Dataflow.{Edge}

-- control may go on to the next instruction
abbrev pub falls_through : Instr → Bool
falls_through (instr.Goto to) = false
falls_through (instr.Switch to) = false
falls_through (instr.Return op) = false
falls_through instr.Throw = false
falls_through _ = true

-- the number of the instruction at an offset, in bytes; behind the last where none stands there
abbrev pub number_at : List ℕ → ℕ → ℕ
number_at pcs pc = unwrap_or (position (λ other. other == pc) pcs) (length pcs)

-- the range of a row of the exception table has the offset
abbrev pub covers : ℕ → Guard → Bool
covers pc g = nat_le g.start pc && nat_lt pc g.end

-- to the next instruction, where there is one
abbrev pub next_edges : Code → ℕ → Instr → List Edge
next_edges code k i = if falls_through i && nat_lt (k + 1) (length code.instrs) then (k, k + 1, false) ∷ [] else []

-- to the targets of a branch, in the order of the file
abbrev pub branch_edges : Code → ℕ → Instr → List Edge
branch_edges code k i = map (λ pc. (k, number_at (pcs_of code) pc, false)) (branches_to i)

-- to the handlers of the rows that cover an offset, in the order of the table
abbrev pub handler_edges : Code → ℕ → ℕ → List Edge
handler_edges code k pc = map (λ g. (k, number_at (pcs_of code) g.handler, true)) (filter (covers pc) code.rows)

-- all from one instruction
abbrev pub edges_from : Code → ℕ → ℕ × Instr → List Edge
edges_from code k i = next_edges code k i.1 ++ (branch_edges code k i.1 ++ handler_edges code k i.0)

-- those of instructions that stand in a row, by the number of the first
unfoldable pub edges_behind : Code → ℕ → List (ℕ × Instr) → List Edge
edges_behind code k [] = []
edges_behind code k (i ∷ instrs) = edges_from code k i ++ edges_behind code (k + 1) instrs

-- the edges of a code, instruction by instruction
unfoldable pub edges_of : Code → List Edge
edges_of code = edges_behind code 0 code.instrs
