-- The form of an instruction (JVMS SE 21 chapter 6), by its opcode and operands.
use Rattle.std.specs.Prelude.{◌≡◌, ℕ, ◌==◌, Bool, true, false, ◌||◌, if◌then◌else◌, List, [], slice_index, is_some, Option, Some}
use Rattle.std.specs.Int.{w16}
use Rattle.fp_model.specs.declared.class.instr.Instr.{Instr}
use Rattle.fp_model.specs.declared.raw.attribute.BootRow.{BootRow}
use Rattle.fp_model.specs.declared.raw.attribute.RawIns.{RawIns}
use Rattle.fp_model.specs.declared.raw.pool.Entry.{Entry}
use Rattle.fp_model.specs.Descriptor.{is_method_descriptor}
use Rattle.fp_model.specs.Instructions.{found, plain_instr}
use Rattle.fp_model.specs.NamedInstructions.{call_texts, is_call_op, is_class_op, is_entry_text, is_field_op, is_named_sound, member_at, named_texts, texts_by, IsCallAt, IsNamedInstr, IsOf}
use Rattle.fp_model.specs.Reading.{number_at}
use Rattle.fp_model.specs.Entries.{passes}
use Rattle.fp_ops.specs.CallSites.{is_sound_site_at, site_texts_at, IsSiteAt}

-- the index that the operands begin with
abbrev pub index_in : RawIns → Option ℕ
index_in ins = found (number_at w16 ins.args 0)

-- the number of dimensions behind it
abbrev pub dims_in : RawIns → ℕ
dims_in ins = slice_index ins.args 2

-- the opcodes of accesses to fields, of instructions with a class alone, and of arrays of classes
abbrev pub is_named_op : ℕ → Bool
is_named_op op = is_field_op op || (is_class_op op || ((op == 189) || (op == 197)))

-- the opcode of a call site that is computed
abbrev pub is_site_op : ℕ → Bool
is_site_op op = op == 186

-- the opcodes of instructions that take names
abbrev pub takes_names : ℕ → Bool
takes_names op = is_named_op op || (is_call_op op || is_site_op op)

-- the instruction at a place of a code, over a table of names
pub record IsInstrOf (names : List (List ℕ)) (entries : List Entry) (boots : List BootRow) (pc : ℕ) (ins : RawIns) (i : Instr) : Type 0 where
  pub named : is_named_op ins.op ≡ true → IsOf (λ index. IsNamedInstr names entries ins.op index (dims_in ins) i) (index_in ins)
  pub call : is_call_op ins.op ≡ true → IsOf (λ index. IsCallAt names entries ins.op index i) (index_in ins)
  pub site : is_site_op ins.op ≡ true → IsOf (λ index. IsSiteAt names entries boots index i) (index_in ins)
  pub plain : takes_names ins.op ≡ false → plain_instr entries pc ins ≡ Some i

-- the texts that it takes
abbrev pub instr_texts : List Entry → List BootRow → RawIns → List (List ℕ)
instr_texts entries boots ins =
    if is_named_op ins.op then texts_by (λ index. named_texts entries ins.op index) (index_in ins)
    else if is_call_op ins.op then texts_by (λ index. texts_by call_texts (member_at entries index)) (index_in ins)
    else if is_site_op ins.op then texts_by (λ index. site_texts_at entries boots index) (index_in ins)
    else []

-- What the instruction asks for is there: its operands, of its constant the texts that its opcode asks for, and of its
-- call site the row of bootstrap methods.
abbrev pub is_sound_ins : List Entry → List BootRow → ℕ → RawIns → Bool
is_sound_ins entries boots pc ins =
    if is_named_op ins.op then passes (λ index. is_named_sound entries ins.op index) (index_in ins)
    else if is_call_op ins.op then passes (λ index. passes (λ texts. is_entry_text is_method_descriptor texts.descr) (member_at entries index)) (index_in ins)
    else if is_site_op ins.op then passes (λ index. is_sound_site_at entries boots index) (index_in ins)
    else is_some (plain_instr entries pc ins)
