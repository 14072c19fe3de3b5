-- The code of a method in numbers of a table of names (JVMS SE 21 section 4.7.3).
use Rattle.std.specs.Prelude.{◌≡◌, ℕ, ◌+◌, ◌&&◌, Bool, nat_lt, List, [], ◌∷◌, ◌++◌, length}
use Rattle.std.specs.List.{flat_map, AllZip}
use Rattle.std.specs.Option.{option_to_list}
use Rattle.fp_model.specs.declared.class.Code.{Code}
use Rattle.fp_model.specs.declared.class.Guard.{Guard}
use Rattle.fp_model.specs.declared.class.instr.Instr.{Instr}
use Rattle.fp_model.specs.declared.raw.attribute.BootRow.{BootRow}
use Rattle.fp_model.specs.declared.raw.attribute.CatchRow.{CatchRow}
use Rattle.fp_model.specs.declared.raw.attribute.RawCode.{RawCode, out-RawCode}
use Rattle.fp_model.specs.declared.raw.attribute.RawIns.{RawIns}
use Rattle.fp_model.specs.declared.raw.pool.Entry.{Entry}
use Rattle.fp_model.specs.Entries.{class_name_at}
use Rattle.fp_model.specs.Spelling.{spelled_ins}
use Rattle.fp_ops.specs.Checked.{are_sound_from}
use Rattle.fp_ops.specs.Forms.{instr_texts, IsInstrOf}
use Rattle.fp_class.specs.Interning.{IsParentName}

-- the instructions are those of a code, each with its offset, the first of which stands at pc
abbrev pub AreInstrsFrom : (names : List (List ℕ)) → List Entry → List BootRow → (pc : ℕ) → List (ℕ × Instr) → List RawIns → Type 0
AreInstrsFrom names entries boots pc [] [] = Unit {0}
AreInstrsFrom names entries boots pc (x ∷ instrs) (ins ∷ code) = (x.0 ≡ pc) × IsInstrOf names entries boots pc ins x.1 × AreInstrsFrom names entries boots (pc + length (spelled_ins ins)) instrs code
AreInstrsFrom names entries boots pc _ _ = ⊥

-- a row of the exception table, whose class is named by a number; there is none for a row of any class
pub record IsGuardOf (names : List (List ℕ)) (entries : List Entry) (g : Guard) (row : CatchRow) : Type 0 where
  pub start : g.start ≡ row.start
  pub end : g.end ≡ row.end
  pub handler : g.handler ≡ row.handler
  pub class : IsParentName names entries g.class row.class

-- the code is that of the file
pub record IsCodeOf (names : List (List ℕ)) (entries : List Entry) (boots : List BootRow) (code : Code) (raw : RawCode) : Type 0 where
  pub max_stack : code.max_stack ≡ (out-RawCode raw).max_stack
  pub max_locals : code.max_locals ≡ (out-RawCode raw).max_locals
  pub instrs : AreInstrsFrom names entries boots 0 code.instrs (out-RawCode raw).code
  pub rows : AllZip (IsGuardOf names entries) code.rows (out-RawCode raw).rows

-- the texts of the class that a row of the exception table catches
abbrev pub row_texts : List Entry → CatchRow → List (List ℕ)
row_texts entries row = option_to_list (class_name_at entries row.class)

-- the texts that a code takes, in order: those of its instructions, and the classes of its rows
abbrev pub code_texts : List Entry → List BootRow → RawCode → List (List ℕ)
code_texts entries boots raw =
    flat_map (instr_texts entries boots) (out-RawCode raw).code
    ++ flat_map (row_texts entries) (out-RawCode raw).rows

-- what it asks for is there
abbrev pub is_sound_code : List Entry → List BootRow → RawCode → Bool
is_sound_code entries boots raw = are_sound_from entries boots 0 (out-RawCode raw).code && nat_lt (length (flat_map spelled_ins (out-RawCode raw).code)) 65536
