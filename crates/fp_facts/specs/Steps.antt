-- The instructions of a method that control may come to, each with the origins of the words before it.
use Rattle.std.specs.Prelude.{ℕ, List, [], ◌∷◌, ◌++◌, length, map, Option, Some, None}
use Rattle.std.specs.List.{range_with_len}
use Rattle.fp_model.specs.declared.class.Code.{Code}
use Rattle.fp_model.specs.declared.class.Method.{Method}
use Rattle.fp_model.specs.declared.class.instr.Instr.{Instr}
use Rattle.fp_facts.specs.declared.origin.Origin.{Origin}
use Rattle.fp_facts.specs.Origins.{origins_before}

-- an instruction at its offset, with the origins of each local variable and then of each word of the stack
pub record Step : Type 0 where
  pub pc : ℕ
  pub instr : Instr
  pub words : List (List Origin)

-- the step of an instruction, where a way leads to it
abbrev pub step_of : (ℕ × Instr) → Option (List (List Origin)) → List Step
step_of i None = []
step_of i (Some words) = record { pc = i.0; instr = i.1; words = words } ∷ []

abbrev pub steps_of : List (ℕ × Instr) → List (Option (List (List Origin))) → List Step
steps_of [] frames = []
steps_of (i ∷ instrs) [] = []
steps_of (i ∷ instrs) (f ∷ frames) = step_of i f ++ steps_of instrs frames

-- the origins of the words before each instruction of a code
abbrev pub frames_of : Method → Code → List (Option (List (List Origin)))
frames_of m code = map (origins_before m code) (range_with_len 0 (length code.instrs))

-- the steps of a method's code, in its order
unfoldable pub steps : Method → Code → List Step
steps m code = steps_of code.instrs (frames_of m code)
