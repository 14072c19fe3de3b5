-- Sets of classes and interfaces, and when one is sound.
use Rattle.std.specs.Prelude.{◌≡◌, ◌≢◌, ℕ, suc, zero, ◌+◌, ◌<◌, ◌^◌, ◌==◌, nat_lt, Bool, false, ◌||◌, List, [], ◌∷◌, length, take, map, filter, position, slice_get, option_and_then, option_map, Option, Some, None, IfSome, All, Contains, zip, count_by, string_bytes, if◌then◌else◌}
use Rattle.std.specs.List.{flat_map, range_with_len}
use Rattle.std.specs.Option.{option_or}
use Rattle.fp_model.specs.declared.class.Class.{Class}
use Rattle.fp_model.specs.declared.class.Field.{Field}
use Rattle.fp_model.specs.declared.class.Method.{Method}
use Rattle.fp_model.specs.declared.class_set.fault.SetFault.{SetFault}
use Rattle.fp_model.specs.declared.class_set.fault.SetFault.TheVariants as fault
use Rattle.fp_base.specs.Escape.{escaped_name}
use Rattle.fp_base.specs.Names.{AreDistinct}
use Rattle.fp_base.specs.Order.{is_before}
use Rattle.fp_model.specs.CodeOver.{IsCodeOver}
use Rattle.fp_model.specs.Descriptor.{text_of, IsKindOf, IsDescrOf}

-- a set of classes, and the table of names that its numbers are of
pub record SetView : Type 0 where
  pub classes : List Class
  pub names : List (List ℕ)

-- the fields of all classes, and the methods
abbrev pub fields_of : List Class → List Field
fields_of classes = flat_map (λ c. c.fields) classes

abbrev pub methods_of : List Class → List Method
methods_of classes = flat_map (λ c. c.methods) classes

-- how many fields the classes before a number have, and how many methods
abbrev pub first_field_of : List Class → ℕ → ℕ
first_field_of classes id = length (fields_of (take id classes))

abbrev pub first_method_of : List Class → ℕ → ℕ
first_method_of classes id = length (methods_of (take id classes))

-- the number of the first class of a name
abbrev pub class_named : List Class → ℕ → Option ℕ
class_named classes name = position (λ c. c.name == name) classes

-- the superclass of a class, where it has one in the set
abbrev pub superclass_of : List Class → ℕ → Option ℕ
superclass_of classes id = option_and_then (λ c. option_and_then (class_named classes) c.parent) (slice_get classes id)

-- where so many steps lead
unfoldable pub after_steps : (ℕ → Option ℕ) → ℕ → ℕ → Option ℕ
after_steps next zero id = Some id
after_steps next (suc steps) id = option_and_then next (after_steps next steps id)

-- the class that so many steps from superclass to superclass lead to
abbrev pub ancestor_after : List Class → ℕ → ℕ → Option ℕ
ancestor_after classes steps id = after_steps (superclass_of classes) steps id

-- the value is this number
abbrev pub is_number : ℕ → Option ℕ → Bool
is_number n None = false
is_number n (Some m) = m == n

-- one of the first so many steps, but no step at all, leads back to the start
unfoldable pub comes_back : (ℕ → Option ℕ) → ℕ → ℕ → Bool
comes_back next zero id = false
comes_back next (suc steps) id = comes_back next steps id || is_number id (after_steps next (suc steps) id)

-- a chain of superclasses comes back to the class; where one does, one does within as many steps as there are classes
abbrev pub is_on_cycle : List Class → ℕ → Bool
is_on_cycle classes id = comes_back (superclass_of classes) (length classes) id

-- more than one class has the name of this one
abbrev pub has_namesake : List Class → Class → Bool
has_namesake classes c = nat_lt 1 (count_by (λ d. d.name == c.name) classes)

-- the text, or another one that comes before it
abbrev pub earlier : List ℕ → Option (List ℕ) → List ℕ
earlier text None = text
earlier text (Some other) = if is_before other text then other else text

-- the first of all of them
unfoldable pub least_text : List (List ℕ) → Option (List ℕ)
least_text [] = None
least_text (text ∷ texts) = Some (earlier text (least_text texts))

-- the text is one of these, and none of them comes before it
pub record IsFirstOf (texts : List (List ℕ)) (text : List ℕ) : Type 0 where
  pub among : Contains texts text
  pub first : All (λ other. is_before other text ≡ false) texts

-- the escaped names of those classes that are marked
abbrev pub marked_names : List (List ℕ) → List Class → List Bool → List (List ℕ)
marked_names names classes marks = map (λ e. escaped_name (text_of names e.0.name)) (filter (λ e. e.1) (zip classes marks))

-- the mark of each class: it has a namesake; it lies on a cycle of superclasses
abbrev pub namesake_marks : List Class → List Bool
namesake_marks classes = map (has_namesake classes) classes

abbrev pub cycle_marks : List Class → List Bool
cycle_marks classes = map (is_on_cycle classes) (range_with_len 0 (length classes))

-- why a list of classes is no sound set: the first name of two classes, or the first one on a cycle of superclasses
pub data SetRefusal : Type 0 where
  Duplicate : List ℕ → SetRefusal
  SuperCycle : List ℕ → SetRefusal

-- duplicates come first
unfoldable pub refusal_of : SetView → Option SetRefusal
refusal_of set = option_or
    (option_map Duplicate (least_text (marked_names set.names set.classes (namesake_marks set.classes))))
    (option_map SuperCycle (least_text (marked_names set.names set.classes (cycle_marks set.classes))))

-- the numbers of a field, and of a method and its code, are of the table, and their kinds are what their descriptors say
pub record IsFieldOver (names : List (List ℕ)) (f : Field) : Type 0 where
  pub name : f.name < length names
  pub descr : f.descr < length names
  pub kind : IsKindOf names (text_of names f.descr) f.kind

pub record IsMethodOver (names : List (List ℕ)) (m : Method) : Type 0 where
  pub name : m.name < length names
  pub descr : m.descr < length names
  pub kinds : IsDescrOf names (text_of names m.descr) m.kinds
  pub code : IfSome m.code (IsCodeOver names)

-- the numbers of a class are of the table, and so with its members
pub record IsClassOver (names : List (List ℕ)) (c : Class) : Type 0 where
  pub name : c.name < length names
  pub parent : IfSome c.parent (λ n. n < length names)
  pub interfaces : All (λ n. n < length names) c.interfaces
  pub fields : All (IsFieldOver names) c.fields
  pub methods : All (IsMethodOver names) c.methods

-- fewer than 2 ^ 32 classes, fields and methods
pub record AreFew (all : List Class) : Type 0 where
  pub classes : length all < 2 ^ 32
  pub fields : length (fields_of all) < 2 ^ 32
  pub methods : length (methods_of all) < 2 ^ 32

-- no two classes have one name, and no chain of superclasses comes back to its start
pub record IsSound (all : List Class) : Type 0 where
  pub distinct : (i j : ℕ) (c d : Class) → slice_get all i ≡ Some c → slice_get all j ≡ Some d → c.name ≡ d.name → i ≡ j
  pub acyclic : (steps id : ℕ) → ancestor_after all (suc steps) id ≢ Some id

-- what holds of every set of classes
pub record IsSet (set : SetView) : Type 0 where
  pub over : All (IsClassOver set.names) set.classes
  pub few : AreFew set.classes
  pub sound : IsSound set.classes
  pub names : AreDistinct set.names

-- what holds of a set with an index of the first class of each name, and the numbers of the first members of each class
pub record IsIndexed (set : SetView) (index : List (Option ℕ)) (first_fields first_methods : List ℕ) : Type 0 where
  pub valid : IsSet set
  pub by_name : index ≡ map (class_named set.classes) (range_with_len 0 (length set.names))
  pub fields : first_fields ≡ map (first_field_of set.classes) (range_with_len 0 (length set.classes + 1))
  pub methods : first_methods ≡ map (first_method_of set.classes) (range_with_len 0 (length set.classes + 1))

-- the fault tells why the classes are refused; want of memory tells nothing
abbrev pub TellsRefusal : Option SetRefusal → SetFault → Type 0
TellsRefusal refusal (fault.Duplicate name) = refusal ≡ Some (Duplicate (string_bytes name))
TellsRefusal refusal (fault.SuperCycle name) = refusal ≡ Some (SuperCycle (string_bytes name))
TellsRefusal refusal fault.Memory = Unit {0}
