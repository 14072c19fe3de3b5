-- Instructions of a code over a table of names that grows.
use Rattle.std.proofs.Common.{◌≡◌, ℕ, ◌+◌, List, [], ◌∷◌, length}
use Rattle.fp_model.specs.declared.class.instr.Instr.{Instr}
use Rattle.fp_model.specs.declared.raw.attribute.BootRow.{BootRow}
use Rattle.fp_model.specs.declared.raw.attribute.RawIns.{RawIns}
use Rattle.fp_model.specs.declared.raw.pool.Entry.{Entry}
use Rattle.fp_model.specs.Spelling.{spelled_ins}
use Rattle.fp_model.proofs.LongerTables.{Keeps}
pub use Rattle.fp_ops.proofs.LongerInstrs.{IsInstrOf-kept}
use Rattle.fp_class.specs.MethodCode.{AreInstrsFrom}

pub AreInstrsFrom-kept : (names longer : List (List ℕ)) (kept : Keeps names longer) (entries : List Entry) (boots : List BootRow) (pc : ℕ) (instrs : List (ℕ × Instr)) (code : List RawIns) → AreInstrsFrom names entries boots pc instrs code → AreInstrsFrom longer entries boots pc instrs code
AreInstrsFrom-kept names longer kept entries boots pc [] [] all = tt
AreInstrsFrom-kept names longer kept entries boots pc [] (ins ∷ code) all = absurd all
AreInstrsFrom-kept names longer kept entries boots pc (x ∷ instrs) [] all = absurd all
AreInstrsFrom-kept names longer kept entries boots pc (x ∷ instrs) (ins ∷ code) all = (all.0, IsInstrOf-kept names longer kept entries boots pc ins x.1 all.1, AreInstrsFrom-kept names longer kept entries boots (pc + length (spelled_ins ins)) instrs code all.2)
