-- Which classes an instruction may begin to initialise (JVMS SE 21 section 5.5).
use Rattle.std.specs.Prelude.{◌≡◌, ℕ, Bool, false, IsTrue, Some, ◌&&◌, List, [], ◌∷◌, length, filter, codes, Option, None, option_and_then, slice_get, if◌then◌else◌}
use Rattle.std.specs.List.{flat_map, list_any, range_with_len}
use Rattle.std.specs.List.Sorted.{IsStrictlyIncreasing}
use Rattle.std.specs.Option.{option_map_or, option_to_list}
use Rattle.std.specs.Str.{bytes_eq}
use Rattle.fp_model.specs.declared.class.Class.{Class}
use Rattle.fp_model.specs.declared.class.Code.{Code}
use Rattle.fp_model.specs.declared.class.Method.{Method}
use Rattle.fp_model.specs.declared.class.instr.Instr.{Instr}
use Rattle.fp_model.specs.declared.class.instr.Instr.TheVariants as instr
use Rattle.fp_model.specs.ClassSet.{SetView, class_named}
use Rattle.fp_model.specs.Descriptor.{text_of}
use Rattle.fp_model.specs.Flags.{is_static}
use Rattle.fp_facts.specs.Hierarchy.{ancestors, classes_among, has_number}
use Rattle.fp_facts.specs.Resolution.{class_of_field, class_of_method, has_code, resolve_field, resolve_method}
use Rattle.fp_facts.specs.Selection.{ascending_among}
use Rattle.fp_facts.specs.Transfer.{frame_before, is_unreached}

-- a class's initialiser: a static method `<clinit>()V` with code (section 2.9.2)
abbrev pub is_initialiser : List (List ℕ) → Method → Bool
is_initialiser names m =
    is_static m.flags && (has_code m && (bytes_eq (text_of names m.name) (codes "<clinit>") && bytes_eq (text_of names m.descr) (codes "()V")))

abbrev pub has_initialiser : SetView → (class : ℕ) → Bool
has_initialiser set class = option_map_or (λ c. list_any (is_initialiser set.names) c.methods) (slice_get set.classes class) false

-- the class of the set that an instruction begins to initialise: the one that it makes an object of, or that declares the member
-- which it means
abbrev pub initialised_by : List Class → Instr → Option ℕ
initialised_by classes (instr.New class) = class_named classes class
initialised_by classes (instr.GetStatic class name descr kind) = option_and_then (class_of_field classes) (resolve_field classes class name descr)
initialised_by classes (instr.PutStatic class name descr kind) = option_and_then (class_of_field classes) (resolve_field classes class name descr)
initialised_by classes (instr.InvokeStatic class name descr kinds) = option_and_then (class_of_method classes) (resolve_method classes class name descr)
initialised_by classes _ = None

-- a class and its ancestors in the set
abbrev pub with_ancestors : List Class → (class : ℕ) → List ℕ
with_ancestors classes class = option_map_or (λ c. class ∷ classes_among classes (ancestors classes c)) (slice_get classes class) []

-- what the instruction of a number begins, where a way leads there
abbrev pub begun_at : SetView → Method → Code → (number : ℕ) → List ℕ
begun_at set m code number =
    if is_unreached (frame_before m code number) then []
    else flat_map (with_ancestors set.classes) (option_to_list (option_and_then (λ i. initialised_by set.classes i.1) (slice_get code.instrs number)))

-- the classes with an initialiser that a method's code may begin to initialise, ascending
abbrev pub begins : SetView → Method → Code → List ℕ
begins set m code =
    ascending_among (length set.classes) (filter (has_initialiser set) (flat_map (begun_at set m code) (range_with_len 0 (length code.instrs))))

-- a way leads to an instruction that begins to initialise a class, and this is that class or an ancestor of it
pub record IsBegun (set : SetView) (m : Method) (code : Code) (class : ℕ) : Type 0 where
  pub number : ℕ
  pub instr : ℕ × Instr
  pub there : slice_get code.instrs number ≡ Some instr
  pub reached : is_unreached (frame_before m code number) ≡ false
  pub begun : ℕ
  pub initialised : initialised_by set.classes instr.1 ≡ Some begun
  pub above : IsTrue (has_number (with_ancestors set.classes begun) class)

-- the numbers ascend, and are those of the classes with an initialiser that the code may begin to initialise
pub record AreBegun (set : SetView) (m : Method) (code : Code) (begun : List ℕ) : Type 0 where
  pub ascending : IsStrictlyIncreasing begun
  pub initialisers : (class : ℕ) → IsTrue (has_number begun class) → IsTrue (has_initialiser set class)
  pub caused : (class : ℕ) → IsTrue (has_number begun class) → IsBegun set m code class
  pub all : (class : ℕ) → IsBegun set m code class → IsTrue (has_initialiser set class) → IsTrue (has_number begun class)
