-- Sound code: what a method's instructions name is there (JVMS SE 21 section 4.9.1).
use Rattle.std.specs.Prelude.{◌≡◌, ℕ, ◌+◌, ◌≤◌, ◌==◌, nat_le, nat_lt, Bool, true, false, ◌&&◌, ◌||◌, List, [], ◌∷◌, map, IfSome, if◌then◌else◌}
use Rattle.std.specs.List.{list_all, list_any}
use Rattle.fp_model.specs.declared.class.Code.{Code}
use Rattle.fp_model.specs.declared.class.Method.{Method}
use Rattle.fp_model.specs.declared.class.instr.Instr.{Instr}
use Rattle.fp_model.specs.declared.class.instr.Instr.TheVariants as instr
use Rattle.fp_model.specs.declared.kind.Kind.{Kind}
use Rattle.fp_model.specs.declared.kind.Kind.TheVariants as kind
use Rattle.fp_model.specs.declared.kind.Sort.{Sort}
use Rattle.fp_model.specs.declared.kind.Sort.TheVariants as sort
use Rattle.fp_model.specs.Flags.{is_static}

-- ---- offsets

-- each is above the one before it
unfoldable pub ascend_above : ℕ → List ℕ → Bool
ascend_above before [] = true
ascend_above before (pc ∷ pcs) = nat_lt before pc && ascend_above pc pcs

-- there is one, the first is 0, and each is above the one before it
abbrev pub ascend_from_0 : List ℕ → Bool
ascend_from_0 [] = false
ascend_from_0 (pc ∷ pcs) = (pc == 0) && ascend_above pc pcs

-- the offsets of the instructions
abbrev pub pcs_of : Code → List ℕ
pcs_of code = map (λ i. i.0) code.instrs

-- an instruction stands there
abbrev pub is_pc : Code → ℕ → Bool
is_pc code pc = list_any (λ other. other == pc) (pcs_of code)

-- where an instruction may branch to
abbrev pub branches_to : Instr → List ℕ
branches_to (instr.If op to) = to ∷ []
branches_to (instr.Goto to) = to ∷ []
branches_to (instr.Switch to) = to
branches_to _ = []

-- ---- locals and words

-- the words that a value of a sort takes (section 2.6.1)
abbrev pub sort_words : Sort → ℕ
sort_words sort.Long = 2
sort_words sort.Double = 2
sort_words _ = 1

-- how many locals there have to be
abbrev pub locals_asked : Instr → ℕ
locals_asked (instr.Load s at) = at + sort_words s
locals_asked (instr.Store s at) = at + sort_words s
locals_asked (instr.Inc at) = at + 1
locals_asked _ = 0

-- the words that a value of a type takes
abbrev pub kind_words : Kind → ℕ
kind_words kind.Long = 2
kind_words kind.Double = 2
kind_words _ = 1

unfoldable pub kind_words_all : List Kind → ℕ
kind_words_all [] = 0
kind_words_all (k ∷ kinds) = kind_words k + kind_words_all kinds

-- the words of a method's arguments, with the receiver of an instance method
abbrev pub method_words : Method → ℕ
method_words m = kind_words_all m.kinds.args + (if is_static m.flags then 0 else 1)

-- ---- forms

-- the sorts of constants that are no references, and those of all values
abbrev pub is_number_sort : Sort → Bool
is_number_sort sort.Ref = false
is_number_sort sort.Half = false
is_number_sort sort.Unset = false
is_number_sort _ = true

abbrev pub is_value_sort : Sort → Bool
is_value_sort sort.Half = false
is_value_sort sort.Unset = false
is_value_sort _ = true

-- from the first opcode to the last
abbrev pub is_within : (first last op : ℕ) → Bool
is_within first last op = nat_le first op && nat_le op last

-- its sort, or its opcode, is one that the form has
abbrev pub is_of_form : Instr → Bool
is_of_form (instr.Const s) = is_number_sort s
is_of_form (instr.Load s at) = is_value_sort s
is_of_form (instr.Store s at) = is_value_sort s
is_of_form (instr.ArrayLoad op) = is_within 46 53 op  -- iaload to saload
is_of_form (instr.ArrayStore op) = is_within 79 86 op  -- iastore to sastore
is_of_form (instr.Shuffle op) = is_within 87 95 op  -- pop to swap
is_of_form (instr.Op op) = is_within 96 131 op || is_within 133 152 op  -- iadd to lxor, i2l to dcmpg
is_of_form (instr.If op to) = is_within 153 166 op || is_within 198 199 op  -- ifeq to if_acmpne, ifnull, ifnonnull
is_of_form (instr.Return op) = is_within 172 177 op  -- ireturn to return
is_of_form _ = true

-- ---- all of these

pub record IsSoundCode (code : Code) : Type 0 where
  pub pcs : ascend_from_0 (pcs_of code) ≡ true
  pub branches : list_all (λ i. list_all (is_pc code) (branches_to i.1)) code.instrs ≡ true
  pub handlers : list_all (λ g. is_pc code g.handler) code.rows ≡ true
  pub locals : list_all (λ i. nat_le (locals_asked i.1) code.max_locals) code.instrs ≡ true
  pub forms : list_all (λ i. is_of_form i.1) code.instrs ≡ true

-- the code of a method, where it has one, is sound and has room for its arguments
pub record IsSoundMethod (m : Method) : Type 0 where
  pub code : IfSome m.code IsSoundCode
  pub arguments : IfSome m.code (λ code. method_words m ≤ code.max_locals)
