-- Where branches lead: to the beginning of an instruction (JVMS SE 21 section 4.9.1). Places are offsets in the code.
use Rattle.std.specs.Prelude.{ℕ, zero, suc, ◌+◌, ◌-◌, ◌*◌, ◌/◌, ◌^◌, ◌==◌, nat_le, nat_lt, Bool, false, ◌||◌, List, [], ◌∷◌, length, Option, Some, None, Result, Ok, Err, if◌then◌else◌}
use Rattle.std.specs.List.{list_all}
use Rattle.std.specs.Int.{w16, w32}
use Rattle.fp_model.specs.declared.fault.FileFault.{FileFault}
use Rattle.fp_model.specs.declared.fault.FileFault.TheVariants as fault
use Rattle.fp_model.specs.declared.form.Form.{Form}
use Rattle.fp_model.specs.declared.form.Form.TheVariants as form
use Rattle.fp_model.specs.declared.raw.attribute.RawIns.{RawIns}
use Rattle.fp_model.specs.Form.{form_of}
use Rattle.fp_model.specs.Reading.{demanded, number_at}
use Rattle.fp_model.specs.References.{each_checked}
use Rattle.fp_model.specs.Spelling.{spelled_ins}
use Rattle.fp_model.specs.Entries.{passes}

-- one of the instructions, the first of which begins at pc, begins at a place
unfoldable pub starts_at : ℕ → List RawIns → ℕ → Bool
starts_at pc [] place = false
starts_at pc (ins ∷ code) place = (place == pc) || starts_at (pc + length (spelled_ins ins)) code place

-- the place at a signed distance from pc, as a number that is negative from `half` on; none before the code
abbrev pub moved : (half pc : ℕ) → Result (ℕ × ℕ) FileFault → Option ℕ
moved half pc (Err e) = None
moved half pc (Ok distance) =
    if nat_lt distance.0 half then Some (pc + distance.0)
    else if nat_le (2 * half) (pc + distance.0) then Some (pc + distance.0 - 2 * half)
    else None

-- the targets of a branch of two bytes and of one of four, by the distance that stands at an offset in the operands
abbrev pub near_target : ℕ → List ℕ → ℕ → Option ℕ
near_target pc args at = moved (2 ^ 15) pc (number_at w16 args at)

abbrev pub far_target : ℕ → List ℕ → ℕ → Option ℕ
far_target pc args at = moved (2 ^ 31) pc (number_at w32 args at)

-- so many targets, whose distances stand at an offset and each so many bytes on
unfoldable pub far_targets : (pc step : ℕ) → List ℕ → ℕ → ℕ → List (Option ℕ)
far_targets pc step args zero at = []
far_targets pc step args (suc count) at = far_target pc args at ∷ far_targets pc step args count (at + step)

-- the targets of an instruction at pc, by its form and operands; of a switch the default first
unfoldable pub targets_of : ℕ → Form → List ℕ → List (Option ℕ)
targets_of pc (form.Branch size) args = (if size == 2 then near_target pc args 0 else far_target pc args 0) ∷ []
targets_of pc form.TableSwitch args = far_target pc args 0 ∷ far_targets pc 4 args ((length args - 12) / 4) 12
targets_of pc form.LookupSwitch args = far_target pc args 0 ∷ far_targets pc 8 args ((length args - 8) / 8) 12
targets_of pc _ args = []

-- an instruction at pc leads to places that pass the test
abbrev pub leads_to : (ℕ → Bool) → ℕ → RawIns → Bool
leads_to test pc ins = list_all (passes test) (targets_of pc (form_of ins.op) ins.args)

-- the instructions of a code that begins at an offset lead to instructions of it, or the first of them that doesn't
abbrev pub targets_checked : List RawIns → (start : ℕ) → Result (Unit {0}) FileFault
targets_checked code start = each_checked spelled_ins (λ at ins. demanded (leads_to (starts_at 0 code) (at - start) ins) (fault.Bounds at)) start code
