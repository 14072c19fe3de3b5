-- Instructions by their forms (JVMS SE 21 chapter 6): those that take names from the constant pool.
use Rattle.std.specs.Prelude.{◌≡◌, ℕ, ◌==◌, ◌||◌, ◌&&◌, nat_le, Bool, true, false, if◌then◌else◌, List, [], ◌∷◌, slice_get, is_some, drop, length, nat_lt, Option, Some, None}
use Rattle.fp_model.specs.declared.class.instr.Instr.{Instr}
use Rattle.fp_model.specs.declared.class.instr.Instr.TheVariants as instr
use Rattle.fp_model.specs.declared.kind.Kind.{Kind}
use Rattle.fp_model.specs.declared.kind.Kind.TheVariants as kind
use Rattle.fp_model.specs.declared.raw.pool.Entry.{Entry}
use Rattle.fp_model.specs.declared.raw.pool.Entry.TheVariants as entry
use Rattle.fp_model.specs.Descriptor.{is_array_like, is_class_text, is_field_descriptor, descr_names, kind_names, IsDescrOf, IsKindOf}
use Rattle.fp_model.specs.Entries.{passes, text_at, class_name_at}

-- the texts of a reference to a member (section 4.4.2)
pub record MemberTexts : Type 0 where
  pub class : List ℕ
  pub name : List ℕ
  pub descr : List ℕ

-- where there are all three
abbrev pub all_texts : (class name descr : Option (List ℕ)) → Option MemberTexts
all_texts (Some class) (Some name) (Some descr) = Some (record { class = class; name = name; descr = descr })
all_texts _ _ _ = None

-- those of a class and a pair
abbrev pub member_with : List Entry → ℕ → Option Entry → Option MemberTexts
member_with entries class (Some (entry.Pair name descr)) = all_texts (class_name_at entries class) (text_at entries name) (text_at entries descr)
member_with entries class _ = None

abbrev pub member_in : List Entry → Option Entry → Option MemberTexts
member_in entries (Some (entry.FieldRef class pair)) = member_with entries class (slice_get entries pair)
member_in entries (Some (entry.MethodRef class pair)) = member_with entries class (slice_get entries pair)
member_in entries (Some (entry.InterfaceRef class pair)) = member_with entries class (slice_get entries pair)
member_in entries _ = None

-- the texts of the reference at an index
abbrev pub member_at : List Entry → ℕ → Option MemberTexts
member_at entries index = member_in entries (slice_get entries index)

-- the numbers are those of a member's texts
pub record IsMember (names : List (List ℕ)) (texts : MemberTexts) (class name descr : ℕ) : Type 0 where
  pub class_is : slice_get names class ≡ Some texts.class
  pub name_is : slice_get names name ≡ Some texts.name
  pub descr_is : slice_get names descr ≡ Some texts.descr

-- the opcodes of accesses to fields
abbrev pub is_field_op : ℕ → Bool
is_field_op op = nat_le 178 op && nat_le op 181

-- an access to a field, by its opcode and the texts of its reference
abbrev pub IsFieldInstr : List (List ℕ) → ℕ → MemberTexts → Instr → Type 0
IsFieldInstr names op texts (instr.GetStatic class name descr k) = (op ≡ 178) × IsMember names texts class name descr × IsKindOf names texts.descr k
IsFieldInstr names op texts (instr.PutStatic class name descr k) = (op ≡ 179) × IsMember names texts class name descr × IsKindOf names texts.descr k
IsFieldInstr names op texts (instr.GetField class name descr k) = (op ≡ 180) × IsMember names texts class name descr × IsKindOf names texts.descr k
IsFieldInstr names op texts (instr.PutField class name descr k) = (op ≡ 181) × IsMember names texts class name descr × IsKindOf names texts.descr k
IsFieldInstr names op texts _ = ⊥

-- the opcodes of instructions with a class alone
abbrev pub is_class_op : ℕ → Bool
is_class_op op = (op == 187) || ((op == 192) || (op == 193))

-- the texts that an access to a field takes
abbrev pub field_texts : MemberTexts → List (List ℕ)
field_texts texts = texts.class ∷ (texts.name ∷ (texts.descr ∷ kind_names texts.descr))

-- an instruction with a class alone, by its opcode and the class's name
abbrev pub IsClassInstr : List (List ℕ) → ℕ → List ℕ → Instr → Type 0
IsClassInstr names op text (instr.New class) = (op ≡ 187) × (slice_get names class ≡ Some text)
IsClassInstr names op text (instr.CheckCast class) = (op ≡ 192) × (slice_get names class ≡ Some text)
IsClassInstr names op text (instr.InstanceOf class) = (op ≡ 193) × (slice_get names class ≡ Some text)
IsClassInstr names op text _ = ⊥

-- a kind is that of a class by its name: an array's by its descriptor, and else a class's (section 4.4.1)
abbrev pub IsClassKindBy : Bool → List (List ℕ) → List ℕ → Kind → Type 0
IsClassKindBy true names text k = IsKindOf names text k
IsClassKindBy false names text (kind.Class name) = slice_get names name ≡ Some text
IsClassKindBy false names text _ = ⊥

abbrev pub IsClassKind : List (List ℕ) → List ℕ → Kind → Type 0
IsClassKind names text k = IsClassKindBy (is_array_like text) names text k

-- the texts that such a kind takes
abbrev pub class_kind_names : List ℕ → List (List ℕ)
class_kind_names text = if is_array_like text then kind_names text else text ∷ []

-- an array of one dimension, by the name of its elements' class
abbrev pub IsArrayInstr : List (List ℕ) → List ℕ → Instr → Type 0
IsArrayInstr names text (instr.NewArray dims element) = (dims ≡ 1) × IsClassKind names text element
IsArrayInstr names text _ = ⊥

-- an array of so many dimensions, by the name of its class; its elements have one dimension less
abbrev pub IsMultiArrayInstr : List (List ℕ) → ℕ → List ℕ → Instr → Type 0
IsMultiArrayInstr names wanted text (instr.NewArray dims element) = (dims ≡ wanted) × IsKindOf names (drop 1 text) element
IsMultiArrayInstr names wanted text _ = ⊥

-- ---- by the index in the operands

-- what is there has the property
abbrev pub IsOf : {A : Type 0} → (A → Type 0) → Option A → Type 0
IsOf property None = ⊥
IsOf property (Some x) = property x

-- the texts that something takes, none where it isn't there
abbrev pub texts_by : {A : Type 0} → (A → List (List ℕ)) → Option A → List (List ℕ)
texts_by texts None = []
texts_by texts (Some x) = texts x

-- the class of an array whose elements have a descriptor
abbrev pub is_array_text : List ℕ → Bool
is_array_text text = nat_lt 0 (length text) && is_field_descriptor (drop 1 text)

-- a text of a class file, where its length has two bytes (section 4.4.7), passes the test
abbrev pub is_entry_text : (List ℕ → Bool) → List ℕ → Bool
is_entry_text test text = nat_lt (length text) 65536 && test text

-- Instructions at an index of the constant pool, by the opcode; `dims` is the number of dimensions behind the index.

abbrev pub IsFieldAt : List (List ℕ) → List Entry → (op index : ℕ) → Instr → Type 0
IsFieldAt names entries op index i = IsOf (λ texts. IsFieldInstr names op texts i) (member_at entries index)

abbrev pub IsClassAt : List (List ℕ) → List Entry → (op index : ℕ) → Instr → Type 0
IsClassAt names entries op index i = IsOf (λ text. IsClassInstr names op text i) (class_name_at entries index)

abbrev pub IsArrayAt : List (List ℕ) → List Entry → ℕ → Instr → Type 0
IsArrayAt names entries index i = IsOf (λ text. IsArrayInstr names text i) (class_name_at entries index)

abbrev pub IsMultiArrayAt : List (List ℕ) → List Entry → (index dims : ℕ) → Instr → Type 0
IsMultiArrayAt names entries index dims i = IsOf (λ text. IsMultiArrayInstr names dims text i) (class_name_at entries index)

-- ---- all of these but the calls

-- what stands at the index is what the opcode asks for
abbrev pub is_named_sound : List Entry → (op index : ℕ) → Bool
is_named_sound entries op index =
    if is_field_op op then passes (λ texts. is_entry_text is_field_descriptor texts.descr) (member_at entries index)
    else if is_class_op op then is_some (class_name_at entries index)
    else if op == 189 then passes (is_entry_text is_class_text) (class_name_at entries index)
    else ((op == 197) && passes (is_entry_text is_array_text) (class_name_at entries index))

-- the texts that the instruction takes, in order
abbrev pub named_texts : List Entry → (op index : ℕ) → List (List ℕ)
named_texts entries op index =
    if is_field_op op then texts_by field_texts (member_at entries index)
    else if is_class_op op then texts_by (λ text. text ∷ []) (class_name_at entries index)
    else if op == 189 then texts_by class_kind_names (class_name_at entries index)
    else texts_by (λ text. kind_names (drop 1 text)) (class_name_at entries index)

-- the instruction of an opcode and the index behind it, and of the number of dimensions behind that
pub record IsNamedInstr (names : List (List ℕ)) (entries : List Entry) (op index dims : ℕ) (i : Instr) : Type 0 where
  pub field : is_field_op op ≡ true → IsFieldAt names entries op index i
  pub class : is_class_op op ≡ true → IsClassAt names entries op index i
  pub array : op ≡ 189 → IsArrayAt names entries index i
  pub multi_array : op ≡ 197 → IsMultiArrayAt names entries index dims i

-- ---- calls

-- the opcodes of calls of methods by their references
abbrev pub is_call_op : ℕ → Bool
is_call_op op = nat_le 182 op && nat_le op 185

-- a call of a method, by its opcode and the texts of its reference
abbrev pub IsCallInstr : List (List ℕ) → ℕ → MemberTexts → Instr → Type 0
IsCallInstr names op texts (instr.InvokeVirtual class name descr kinds) = (op ≡ 182) × IsMember names texts class name descr × IsDescrOf names texts.descr kinds
IsCallInstr names op texts (instr.InvokeSpecial class name descr kinds) = (op ≡ 183) × IsMember names texts class name descr × IsDescrOf names texts.descr kinds
IsCallInstr names op texts (instr.InvokeStatic class name descr kinds) = (op ≡ 184) × IsMember names texts class name descr × IsDescrOf names texts.descr kinds
IsCallInstr names op texts (instr.InvokeInterface class name descr kinds) = (op ≡ 185) × IsMember names texts class name descr × IsDescrOf names texts.descr kinds
IsCallInstr names op texts _ = ⊥

-- the texts that a call takes
abbrev pub call_texts : MemberTexts → List (List ℕ)
call_texts texts = texts.class ∷ (texts.name ∷ (texts.descr ∷ descr_names texts.descr))

abbrev pub IsCallAt : List (List ℕ) → List Entry → (op index : ℕ) → Instr → Type 0
IsCallAt names entries op index i = IsOf (λ texts. IsCallInstr names op texts i) (member_at entries index)
