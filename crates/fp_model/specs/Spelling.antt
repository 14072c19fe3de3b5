-- The bytes of a class file, part by part in the order of JVMS SE 21 section 4.1.
use Rattle.std.specs.Prelude.{ℕ, nat_lt, Bool, List, [], ◌∷◌, ◌++◌, length, if◌then◌else◌}
use Rattle.std.specs.List.{flat_map}
use Rattle.std.specs.Int.{to_be_bytes, w16, w32, w64}
use Rattle.fp_model.specs.declared.raw.pool.Entry.{Entry}
use Rattle.fp_model.specs.declared.raw.pool.Entry.TheVariants as entry
use Rattle.fp_model.specs.declared.raw.pool.Pool.{Pool}
use Rattle.fp_model.specs.declared.raw.attribute.RawIns.{RawIns}
use Rattle.fp_model.specs.declared.raw.attribute.CatchRow.{CatchRow}
use Rattle.fp_model.specs.declared.raw.attribute.BootRow.{BootRow}
use Rattle.fp_model.specs.declared.raw.attribute.RawAttr.{RawAttr}
use Rattle.fp_model.specs.declared.raw.attribute.RawBody.{RawBody}
use Rattle.fp_model.specs.declared.raw.attribute.RawBody.TheVariants as body
use Rattle.fp_model.specs.declared.raw.attribute.RawCode.{RawCode, out-RawCode}
use Rattle.fp_model.specs.declared.raw.RawMember.{RawMember}
use Rattle.fp_model.specs.declared.raw.Raw.{Raw}

-- numbers of one, two, four and eight bytes, the high byte first
abbrev pub u1 : ℕ → List ℕ
u1 n = n ∷ []

abbrev pub u2 : ℕ → List ℕ
u2 n = to_be_bytes w16 n

-- a number that two bytes spell
abbrev pub is_u2 : ℕ → Bool
is_u2 n = nat_lt n 65536

abbrev pub u4 : ℕ → List ℕ
u4 n = to_be_bytes w32 n

abbrev pub u8 : ℕ → List ℕ
u8 n = to_be_bytes w64 n

-- how many, and each of them
abbrev pub counted : {A : Type 0} → (A → List ℕ) → List A → List ℕ
counted spelled xs = u2 (length xs) ++ flat_map spelled xs

-- an entry of the constant pool: its tag, and what stands behind it (section 4.4)
abbrev pub spelled_entry : Entry → List ℕ
spelled_entry entry.Unused = []
spelled_entry (entry.Utf8 text) = u1 1 ++ (u2 (length text) ++ text)
spelled_entry (entry.Integer bits) = u1 3 ++ u4 bits
spelled_entry (entry.Float bits) = u1 4 ++ u4 bits
spelled_entry (entry.Long bits) = u1 5 ++ u8 bits
spelled_entry (entry.Double bits) = u1 6 ++ u8 bits
spelled_entry (entry.Class name) = u1 7 ++ u2 name
spelled_entry (entry.Text text) = u1 8 ++ u2 text
spelled_entry (entry.FieldRef class pair) = u1 9 ++ (u2 class ++ u2 pair)
spelled_entry (entry.MethodRef class pair) = u1 10 ++ (u2 class ++ u2 pair)
spelled_entry (entry.InterfaceRef class pair) = u1 11 ++ (u2 class ++ u2 pair)
spelled_entry (entry.Pair name descr) = u1 12 ++ (u2 name ++ u2 descr)
spelled_entry (entry.Handle kind index) = u1 15 ++ (u1 kind ++ u2 index)
spelled_entry (entry.MethodType descr) = u1 16 ++ u2 descr
spelled_entry (entry.Dynamic boot pair) = u1 17 ++ (u2 boot ++ u2 pair)
spelled_entry (entry.InvokeDynamic boot pair) = u1 18 ++ (u2 boot ++ u2 pair)
spelled_entry (entry.Module name) = u1 19 ++ u2 name
spelled_entry (entry.Package name) = u1 20 ++ u2 name

-- the constant pool: the number of its indexes, and its entries
abbrev pub spelled_pool : Pool → List ℕ
spelled_pool pool = counted spelled_entry pool.entries

-- an instruction: `wide` where it is there, the opcode, the padding of a switch, the operands (chapter 6)
abbrev pub spelled_ins : RawIns → List ℕ
spelled_ins ins = (if ins.wide then u1 196 else []) ++ (u1 ins.op ++ (ins.padding ++ ins.args))

-- a row of the exception table (section 4.7.3)
abbrev pub spelled_row : CatchRow → List ℕ
spelled_row row = u2 row.start ++ (u2 row.end ++ (u2 row.handler ++ u2 row.class))

-- a row of the bootstrap methods (section 4.7.23)
abbrev pub spelled_boot : BootRow → List ℕ
spelled_boot row = u2 row.method ++ counted u2 row.args

-- an attribute by its name, the length of what it holds, and that (section 4.7)
abbrev pub spelled_named : ℕ → List ℕ → List ℕ
spelled_named name held = u2 name ++ (u4 (length held) ++ held)

-- what an attribute inside a code holds; such a one is always kept unread
abbrev pub plain_bytes : RawBody → List ℕ
plain_bytes (body.Bytes bytes) = bytes
plain_bytes _ = []

abbrev pub spelled_plain : RawAttr → List ℕ
spelled_plain attr = spelled_named attr.name (plain_bytes attr.body)

-- what a code attribute holds (section 4.7.3)
abbrev pub code_bytes : RawCode → List ℕ
code_bytes folded =
    let code = out-RawCode folded in
    let instructions = flat_map spelled_ins code.code in
    u2 code.max_stack ++ (u2 code.max_locals ++ (u4 (length instructions) ++ (instructions ++ (counted spelled_row code.rows ++ counted spelled_plain code.attributes))))

-- what an attribute holds
abbrev pub body_bytes : RawBody → List ℕ
body_bytes (body.Bytes bytes) = bytes
body_bytes (body.Code code) = code_bytes code
body_bytes (body.Boot rows) = counted spelled_boot rows
body_bytes (body.Constant index) = u2 index

abbrev pub spelled_attr : RawAttr → List ℕ
spelled_attr attr = spelled_named attr.name (body_bytes attr.body)

-- a field or a method (sections 4.5 and 4.6)
abbrev pub spelled_member : RawMember → List ℕ
spelled_member member = u2 member.flags ++ (u2 member.name ++ (u2 member.descr ++ counted spelled_attr member.attributes))

-- a class file
abbrev pub spelled : Raw → List ℕ
spelled raw =
    u4 0xCAFEBABE ++ (u2 raw.minor ++ (u2 raw.major ++ (spelled_pool raw.pool
    ++ (u2 raw.flags ++ (u2 raw.this ++ (u2 raw.parent ++ (counted u2 raw.interfaces
    ++ (counted spelled_member raw.fields ++ (counted spelled_member raw.methods ++ counted spelled_attr raw.attributes)))))))))
