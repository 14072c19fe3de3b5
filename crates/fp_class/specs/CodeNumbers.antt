-- The code of a method, in numbers of a table that has its names (JVMS SE 21 section 4.7.3 and chapter 6).
use Rattle.std.specs.Prelude.{ℕ, ◌+◌, ◌==◌, List, [], ◌∷◌, map, length, drop, codes, slice_get, unwrap_or, option_and_then, option_map, Option, Some, None, if◌then◌else◌}
use Rattle.std.specs.Str.{bytes_eq}
use Rattle.fp_base.specs.Names.{number_of}
use Rattle.fp_model.specs.declared.class.Code.{Code}
use Rattle.fp_model.specs.declared.class.Guard.{Guard}
use Rattle.fp_model.specs.declared.class.instr.BootArg.{BootArg}
use Rattle.fp_model.specs.declared.class.instr.BootArg.TheVariants as arg
use Rattle.fp_model.specs.declared.class.instr.BootRef.{BootRef}
use Rattle.fp_model.specs.declared.class.instr.Instr.{Instr}
use Rattle.fp_model.specs.declared.class.instr.Instr.TheVariants as instr
use Rattle.fp_model.specs.declared.kind.Descr.{Descr}
use Rattle.fp_model.specs.declared.kind.Kind.{Kind}
use Rattle.fp_model.specs.declared.kind.Kind.TheVariants as kind
use Rattle.fp_model.specs.declared.raw.attribute.BootRow.{BootRow}
use Rattle.fp_model.specs.declared.raw.attribute.CatchRow.{CatchRow}
use Rattle.fp_model.specs.declared.raw.attribute.RawCode.{RawCode, out-RawCode}
use Rattle.fp_model.specs.declared.raw.attribute.RawIns.{RawIns}
use Rattle.fp_model.specs.declared.raw.pool.Entry.{Entry}
use Rattle.fp_model.specs.declared.raw.pool.Entry.TheVariants as entry
use Rattle.fp_model.specs.Descriptor.{is_array_like, parameters, result_of}
use Rattle.fp_model.specs.Entries.{class_name_at, text_at}
use Rattle.fp_model.specs.Instructions.{plain_instr}
use Rattle.fp_model.specs.Kinds.{kind_in}
use Rattle.fp_model.specs.NamedInstructions.{is_call_op, is_class_op, is_field_op, member_at, MemberTexts}
use Rattle.fp_model.specs.Spelling.{spelled_ins}
use Rattle.fp_ops.specs.CallSites.{handle_with, site_at, HandleTexts, SiteTexts}
use Rattle.fp_ops.specs.Forms.{dims_in, index_in, is_named_op, is_site_op}

-- ---- descriptors

-- the kind of a result, none for 'V'
abbrev pub result_in : List (List ℕ) → List ℕ → Option Kind
result_in names text = if bytes_eq text (codes "V") then None else Some (kind_in names text)

-- the kinds that a method descriptor says
abbrev pub descr_in : List (List ℕ) → List ℕ → Descr
descr_in names text = record { args = map (kind_in names) (parameters text); result = result_in names (result_of text) }

-- ---- instructions that take names

abbrev pub field_instr_in : List (List ℕ) → (op : ℕ) → MemberTexts → Instr
field_instr_in names op texts =
    let class = number_of names texts.class in
    let name = number_of names texts.name in
    let descr = number_of names texts.descr in
    if op == 178 then instr.GetStatic class name descr (kind_in names texts.descr)
    else if op == 179 then instr.PutStatic class name descr (kind_in names texts.descr)
    else if op == 180 then instr.GetField class name descr (kind_in names texts.descr)
    else instr.PutField class name descr (kind_in names texts.descr)

abbrev pub class_instr_in : List (List ℕ) → (op : ℕ) → List ℕ → Instr
class_instr_in names op text =
    if op == 187 then instr.New (number_of names text)
    else if op == 192 then instr.CheckCast (number_of names text)
    else instr.InstanceOf (number_of names text)

-- the kind of a class by its name: an array's by its descriptor
abbrev pub class_kind_in : List (List ℕ) → List ℕ → Kind
class_kind_in names text = if is_array_like text then kind_in names text else kind.Class (number_of names text)

-- by the opcode, the index behind it, and the number of dimensions behind that
abbrev pub named_instr_in : List (List ℕ) → List Entry → (op index dims : ℕ) → Option Instr
named_instr_in names entries op index dims =
    if is_field_op op then option_map (field_instr_in names op) (member_at entries index)
    else if is_class_op op then option_map (class_instr_in names op) (class_name_at entries index)
    else if op == 189 then option_map (λ text. instr.NewArray 1 (class_kind_in names text)) (class_name_at entries index)
    else option_map (λ text. instr.NewArray dims (kind_in names (drop 1 text))) (class_name_at entries index)

abbrev pub call_instr_in : List (List ℕ) → (op : ℕ) → MemberTexts → Instr
call_instr_in names op texts =
    let class = number_of names texts.class in
    let name = number_of names texts.name in
    let descr = number_of names texts.descr in
    if op == 182 then instr.InvokeVirtual class name descr (descr_in names texts.descr)
    else if op == 183 then instr.InvokeSpecial class name descr (descr_in names texts.descr)
    else if op == 184 then instr.InvokeStatic class name descr (descr_in names texts.descr)
    else instr.InvokeInterface class name descr (descr_in names texts.descr)

-- ---- call sites

abbrev pub boot_ref_in : List (List ℕ) → HandleTexts → BootRef
boot_ref_in names handle = record {
  kind = handle.kind;
  class = number_of names handle.member.class;
  name = number_of names handle.member.name;
  descr = number_of names handle.member.descr;
}

-- a static argument, by its constant
abbrev pub boot_arg_of : List (List ℕ) → List Entry → Option Entry → BootArg
boot_arg_of names entries (Some (entry.MethodType descr)) = unwrap_or (option_map (λ text. arg.Sig (descr_in names text)) (text_at entries descr)) arg.Other
boot_arg_of names entries (Some (entry.Handle kind index)) = unwrap_or (option_map (λ handle. arg.Ref (boot_ref_in names handle)) (handle_with kind (member_at entries index))) arg.Other
boot_arg_of names entries _ = arg.Other

abbrev pub boot_arg_in : List (List ℕ) → List Entry → ℕ → BootArg
boot_arg_in names entries index = boot_arg_of names entries (slice_get entries index)

abbrev pub site_instr_in : List (List ℕ) → List Entry → SiteTexts → Instr
site_instr_in names entries site =
    instr.InvokeDynamic (number_of names site.name) (descr_in names site.descr) (boot_ref_in names site.method) (map (boot_arg_in names entries) site.args)

-- ---- codes

-- the instruction at a place, where what it asks for is there
abbrev pub instr_there : List (List ℕ) → List Entry → List BootRow → (pc : ℕ) → RawIns → Option Instr
instr_there names entries boots pc ins =
    if is_named_op ins.op then option_and_then (λ index. named_instr_in names entries ins.op index (dims_in ins)) (index_in ins)
    else if is_call_op ins.op then option_and_then (λ index. option_map (call_instr_in names ins.op) (member_at entries index)) (index_in ins)
    else if is_site_op ins.op then option_and_then (λ index. option_map (site_instr_in names entries) (site_at entries boots index)) (index_in ins)
    else plain_instr entries pc ins

abbrev pub instr_in : List (List ℕ) → List Entry → List BootRow → (pc : ℕ) → RawIns → Instr
instr_in names entries boots pc ins = unwrap_or (instr_there names entries boots pc ins) instr.Nop

-- the instructions, each with its offset, the first of which stands at pc
unfoldable pub instrs_from : List (List ℕ) → List Entry → List BootRow → (pc : ℕ) → List RawIns → List (ℕ × Instr)
instrs_from names entries boots pc [] = []
instrs_from names entries boots pc (ins ∷ code) = (pc, instr_in names entries boots pc ins) ∷ instrs_from names entries boots (pc + length (spelled_ins ins)) code

-- a row of the exception table
abbrev pub guard_in : List (List ℕ) → List Entry → CatchRow → Guard
guard_in names entries row = record {
  start = row.start;
  end = row.end;
  handler = row.handler;
  class = option_map (number_of names) (class_name_at entries row.class);
}

abbrev pub code_in : List (List ℕ) → List Entry → List BootRow → RawCode → Code
code_in names entries boots raw = record {
  instrs = instrs_from names entries boots 0 (out-RawCode raw).code;
  rows = map (guard_in names entries) (out-RawCode raw).rows;
  max_stack = (out-RawCode raw).max_stack;
  max_locals = (out-RawCode raw).max_locals;
}
