-- The code of a method in numbers of a table of names (JVMS SE 21 section 4.7.3 and chapter 6): which are of the table, and
-- what the kinds in it say.
use Rattle.std.specs.Prelude.{ℕ, ◌<◌, List, length, IsTrue, IfSome, All}
use Rattle.fp_model.specs.declared.class.Code.{Code}
use Rattle.fp_model.specs.declared.class.Guard.{Guard}
use Rattle.fp_model.specs.declared.class.instr.BootArg.{BootArg}
use Rattle.fp_model.specs.declared.class.instr.BootArg.TheVariants as arg
use Rattle.fp_model.specs.declared.class.instr.BootRef.{BootRef}
use Rattle.fp_model.specs.declared.class.instr.Instr.{Instr}
use Rattle.fp_model.specs.declared.class.instr.Instr.TheVariants as instr
use Rattle.fp_model.specs.declared.kind.Descr.{Descr}
use Rattle.fp_model.specs.declared.kind.Kind.{Kind}
use Rattle.fp_model.specs.declared.kind.Kind.TheVariants as kind
use Rattle.fp_model.specs.Descriptor.{descr_text, is_kind, text_of, IsDescrOf, IsKindOf}

-- ---- references to members (section 4.4.2)

-- the class, the name and the descriptor are of the table
pub record IsMemberOver (names : List (List ℕ)) (class name descr : ℕ) : Type 0 where
  pub class_within : class < length names
  pub name_within : name < length names
  pub descr_within : descr < length names

-- a field, whose kind is what its descriptor says
pub record IsFieldRefOver (names : List (List ℕ)) (class name descr : ℕ) (k : Kind) : Type 0 where
  pub member : IsMemberOver names class name descr
  pub says : IsKindOf names (text_of names descr) k

-- a method, whose kinds are what its descriptor says
pub record IsMethodRefOver (names : List (List ℕ)) (class name descr : ℕ) (kinds : Descr) : Type 0 where
  pub member : IsMemberOver names class name descr
  pub says : IsDescrOf names (text_of names descr) kinds

-- ---- call sites that a bootstrap method computes (sections 4.4.10 and 4.7.23)

-- the kinds are what some method descriptor says, whose text is no name of the table itself
abbrev pub SaysDescr : List (List ℕ) → Descr → Type 0
SaysDescr names kinds = IsDescrOf names (descr_text names kinds) kinds

-- the member that a method handle refers to (section 4.4.8)
abbrev pub IsBootRefOver : List (List ℕ) → BootRef → Type 0
IsBootRefOver names reference = IsMemberOver names reference.class reference.name reference.descr

abbrev pub IsBootArgOver : List (List ℕ) → BootArg → Type 0
IsBootArgOver names (arg.Sig kinds) = SaysDescr names kinds
IsBootArgOver names (arg.Ref reference) = IsBootRefOver names reference
IsBootArgOver names arg.Other = Unit {0}

pub record IsSiteOver (names : List (List ℕ)) (name : ℕ) (descr : Descr) (boot : BootRef) (args : List BootArg) : Type 0 where
  pub name_within : name < length names
  pub says : SaysDescr names descr
  pub method : IsBootRefOver names boot
  pub arguments : All (IsBootArgOver names) args

-- ---- instructions

-- The type of the elements of an array of so many dimensions is what a field descriptor says. Of an array of one dimension
-- with a class for its elements only the name is of the table, since a class entry that is no array type may hold any text
-- (section 4.4.1).
abbrev pub IsElementOver : List (List ℕ) → (dims : ℕ) → Kind → Type 0
IsElementOver names dims (kind.Class name) = (name < length names) × (1 < dims → IsTrue (is_kind names (kind.Class name)))
IsElementOver names dims element = IsTrue (is_kind names element)

-- what its form asks for is of the table
abbrev pub IsInstrOver : List (List ℕ) → Instr → Type 0
IsInstrOver names (instr.GetStatic class name descr k) = IsFieldRefOver names class name descr k
IsInstrOver names (instr.PutStatic class name descr k) = IsFieldRefOver names class name descr k
IsInstrOver names (instr.GetField class name descr k) = IsFieldRefOver names class name descr k
IsInstrOver names (instr.PutField class name descr k) = IsFieldRefOver names class name descr k
IsInstrOver names (instr.InvokeVirtual class name descr kinds) = IsMethodRefOver names class name descr kinds
IsInstrOver names (instr.InvokeSpecial class name descr kinds) = IsMethodRefOver names class name descr kinds
IsInstrOver names (instr.InvokeStatic class name descr kinds) = IsMethodRefOver names class name descr kinds
IsInstrOver names (instr.InvokeInterface class name descr kinds) = IsMethodRefOver names class name descr kinds
IsInstrOver names (instr.InvokeDynamic name descr boot args) = IsSiteOver names name descr boot args
IsInstrOver names (instr.New class) = class < length names
IsInstrOver names (instr.NewArray dims element) = IsElementOver names dims element
IsInstrOver names (instr.CheckCast class) = class < length names
IsInstrOver names (instr.InstanceOf class) = class < length names
IsInstrOver names _ = Unit {0}

-- ---- a code

-- the class that a row of the exception table catches, where it names one
abbrev pub IsGuardOver : List (List ℕ) → Guard → Type 0
IsGuardOver names guard = IfSome guard.class (λ n. n < length names)

pub record IsCodeOver (names : List (List ℕ)) (code : Code) : Type 0 where
  pub instrs : All (λ i. IsInstrOver names i.1) code.instrs
  pub rows : All (IsGuardOver names) code.rows
