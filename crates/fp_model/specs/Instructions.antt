-- Instructions by their forms (JVMS SE 21 chapter 6): those that take no name from the constant pool.
use Rattle.std.specs.Prelude.{ℕ, ◌-◌, ◌/◌, ◌%◌, ◌==◌, nat_lt, ◌||◌, List, [], ◌∷◌, ◌++◌, codes, slice_get, slice_index, Option, Some, None, Result, Ok, Err, if◌then◌else◌}
use Rattle.std.specs.Option.{option_map, option_or}
use Rattle.std.specs.Int.{w8, w16}
use Rattle.fp_model.specs.declared.fault.FileFault.{FileFault}
use Rattle.fp_model.specs.declared.class.instr.Instr.{Instr}
use Rattle.fp_model.specs.declared.class.instr.Instr.TheVariants as instr
use Rattle.fp_model.specs.declared.kind.Kind.{Kind}
use Rattle.fp_model.specs.declared.kind.Kind.TheVariants as kind
use Rattle.fp_model.specs.declared.kind.Sort.{Sort}
use Rattle.fp_model.specs.declared.kind.Sort.TheVariants as sort
use Rattle.fp_model.specs.declared.raw.pool.Entry.{Entry}
use Rattle.fp_model.specs.declared.raw.pool.Entry.TheVariants as entry
use Rattle.fp_model.specs.declared.raw.attribute.RawIns.{RawIns}
use Rattle.fp_model.specs.Branches.{near_target, far_target, targets_of}
use Rattle.fp_model.specs.Form.{form_of}
use Rattle.fp_model.specs.Descriptor.{is_among}
use Rattle.fp_model.specs.Reading.{number_at}
use Rattle.fp_model.specs.References.{descr_at}

-- the sort of what is loaded or stored, by the types in the order of the opcodes: int, long, float, double, reference
abbrev pub type_sort : ℕ → Sort
type_sort type =
    if type == 0 then sort.Int
    else if type == 1 then sort.Long
    else if type == 2 then sort.Float
    else if type == 3 then sort.Double
    else sort.Ref

-- ---- by the opcode alone

unfoldable pub fixed_instr : ℕ → Option Instr
fixed_instr op =
    if op == 0 then Some instr.Nop
    else if op == 1 then Some instr.Null
    else if nat_lt op 9 then Some (instr.Const sort.Int)  -- iconst_m1 to iconst_5
    else if nat_lt op 11 then Some (instr.Const sort.Long)  -- lconst_0, lconst_1
    else if nat_lt op 14 then Some (instr.Const sort.Float)  -- fconst_0 to fconst_2
    else if nat_lt op 16 then Some (instr.Const sort.Double)  -- dconst_0, dconst_1
    else if nat_lt op 18 then Some (instr.Const sort.Int)  -- bipush, sipush
    else if nat_lt op 26 then None
    else if nat_lt op 46 then Some (instr.Load (type_sort ((op - 26) / 4)) ((op - 26) % 4))
    else if nat_lt op 54 then Some (instr.ArrayLoad op)
    else if nat_lt op 59 then None
    else if nat_lt op 79 then Some (instr.Store (type_sort ((op - 59) / 4)) ((op - 59) % 4))
    else if nat_lt op 87 then Some (instr.ArrayStore op)
    else if nat_lt op 96 then Some (instr.Shuffle op)  -- pop to swap
    else if op == 132 then None
    else if nat_lt op 153 then Some (instr.Op op)  -- arithmetic, conversions, comparisons
    else if nat_lt op 172 then None
    else if nat_lt op 178 then Some (instr.Return op)
    else if op == 190 then Some instr.ArrayLength
    else if op == 191 then Some instr.Throw
    else if (op == 194) || (op == 195) then Some instr.Monitor
    else None

-- ---- by its operands

-- a number that was read
abbrev pub found : Result (ℕ × ℕ) FileFault → Option ℕ
found (Ok number) = Some number.0
found (Err e) = None

-- the local that the operands name, in one byte, and in two behind `wide`
abbrev pub local_in : RawIns → Option ℕ
local_in ins = found (number_at (if ins.wide then w16 else w8) ins.args 0)

-- a place in a code, which is shorter than 2 ^ 16 bytes
abbrev pub short_place : Option ℕ → Option ℕ
short_place None = None
short_place (Some place) = if nat_lt place 65536 then Some place else None

-- the primitive type that `newarray` makes an array of, by its code (table 6.5.newarray-A)
abbrev pub primitive_kind : ℕ → Option Kind
primitive_kind code =
    if code == 4 then Some (kind.Int 90)
    else if code == 5 then Some (kind.Int 67)
    else if code == 6 then Some kind.Float
    else if code == 7 then Some kind.Double
    else if code == 8 then Some (kind.Int 66)
    else if code == 9 then Some (kind.Int 83)
    else if code == 10 then Some (kind.Int 73)
    else if code == 11 then Some kind.Long
    else None

abbrev pub primitive_array : Option ℕ → Option Instr
primitive_array None = None
primitive_array (Some code) = option_map (λ k. instr.NewArray 1 k) (primitive_kind code)

unfoldable pub operand_instr : ℕ → RawIns → Option Instr
operand_instr pc ins =
    if nat_lt ins.op 21 then None
    else if nat_lt ins.op 26 then option_map (λ at. instr.Load (type_sort (ins.op - 21)) at) (local_in ins)
    else if nat_lt ins.op 54 then None
    else if nat_lt ins.op 59 then option_map (λ at. instr.Store (type_sort (ins.op - 54)) at) (local_in ins)
    else if ins.op == 132 then option_map (λ at. instr.Inc at) (local_in ins)
    else if nat_lt ins.op 153 then None
    else if nat_lt ins.op 167 then option_map (λ to. instr.If ins.op to) (short_place (near_target pc ins.args 0))
    else if ins.op == 167 then option_map (λ to. instr.Goto to) (short_place (near_target pc ins.args 0))
    else if ins.op == 188 then primitive_array (found (number_at w8 ins.args 0))
    else if (ins.op == 198) || (ins.op == 199) then option_map (λ to. instr.If ins.op to) (short_place (near_target pc ins.args 0))
    else if ins.op == 200 then option_map (λ to. instr.Goto to) (short_place (far_target pc ins.args 0))
    else None

-- the places of targets, behind others, where each of them has one
unfoldable pub places_after : List ℕ → List (Option ℕ) → Option (List ℕ)
places_after before [] = Some before
places_after before (None ∷ targets) = None
places_after before (Some place ∷ targets) = if nat_lt place 65536 then places_after (before ++ place ∷ []) targets else None

-- the default of a switch, and then the other targets in the order of the file
unfoldable pub switch_instr : ℕ → RawIns → Option Instr
switch_instr pc ins =
    if (ins.op == 170) || (ins.op == 171) then option_map (λ to. instr.Switch to) (places_after [] (targets_of pc (form_of ins.op) ins.args))
    else None

-- ---- constants

-- the sort of what a field descriptor says, by its first letter
abbrev pub letter_instr : ℕ → Instr
letter_instr letter =
    if is_among (codes "BCISZ") letter then instr.Const sort.Int
    else if letter == 74 then instr.Const sort.Long
    else if letter == 70 then instr.Const sort.Float
    else if letter == 68 then instr.Const sort.Double
    else instr.ConstRef

abbrev pub descr_instr : Option (List ℕ) → Option Instr
descr_instr None = None
descr_instr (Some descr) = Some (letter_instr (slice_index descr 0))

-- what loads a constant
abbrev pub entry_instr : List Entry → Option Entry → Option Instr
entry_instr entries (Some (entry.Integer bits)) = Some (instr.Const sort.Int)
entry_instr entries (Some (entry.Float bits)) = Some (instr.Const sort.Float)
entry_instr entries (Some (entry.Long bits)) = Some (instr.Const sort.Long)
entry_instr entries (Some (entry.Double bits)) = Some (instr.Const sort.Double)
entry_instr entries (Some (entry.Class name)) = Some instr.ConstRef
entry_instr entries (Some (entry.Text text)) = Some instr.ConstRef
entry_instr entries (Some (entry.Handle kind index)) = Some instr.ConstRef
entry_instr entries (Some (entry.MethodType descr)) = Some instr.ConstRef
entry_instr entries (Some (entry.Dynamic boot pair)) = descr_instr (descr_at entries pair)
entry_instr entries _ = None

abbrev pub found_entry : List Entry → Option ℕ → Option Entry
found_entry entries None = None
found_entry entries (Some index) = slice_get entries index

-- `ldc` has an index of one byte, `ldc_w` and `ldc2_w` of two
unfoldable pub constant_instr : List Entry → RawIns → Option Instr
constant_instr entries ins =
    if ins.op == 18 then entry_instr entries (found_entry entries (found (number_at w8 ins.args 0)))
    else if (ins.op == 19) || (ins.op == 20) then entry_instr entries (found_entry entries (found (number_at w16 ins.args 0)))
    else None

-- ---- all of these

-- the instruction at a place, where it takes no name
abbrev pub plain_instr : List Entry → ℕ → RawIns → Option Instr
plain_instr entries pc ins =
    option_or (fixed_instr ins.op) (option_or (operand_instr pc ins) (option_or (constant_instr entries ins) (switch_instr pc ins)))
