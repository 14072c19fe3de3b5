-- The classes of the objects that a run may be handed at its start.
use Rattle.std.specs.Prelude.{ℕ, zero, suc, Bool, false, IsTrue, not, ◌&&◌, List, [], ◌++◌, length, map, filter, Option, Some, None, option_and_then, slice_get, if◌then◌else◌}
use Rattle.std.specs.List.{flat_map, list_any, range_with_len}
use Rattle.std.specs.Option.{option_map_or, option_to_list}
use Rattle.fp_model.specs.declared.class.Class.{Class}
use Rattle.fp_model.specs.declared.class.Field.{Field}
use Rattle.fp_model.specs.declared.class.Method.{Method}
use Rattle.fp_model.specs.declared.kind.Elem.{Elem}
use Rattle.fp_model.specs.declared.kind.Elem.TheVariants as elem
use Rattle.fp_model.specs.declared.kind.Kind.{Kind}
use Rattle.fp_model.specs.declared.kind.Kind.TheVariants as kind
use Rattle.fp_model.specs.Flags.{is_static}
use Rattle.fp_facts.specs.Hierarchy.{class_and_above, fits, has_number, is_concrete}
use Rattle.fp_facts.specs.Resolution.{class_of_method, method_at}

-- the name of the class that a type is, or that the innermost elements of an array are of
abbrev pub element_class : Elem → Option ℕ
element_class (elem.Prim letter) = None
element_class (elem.Class name) = Some name

abbrev pub class_of_kind : Kind → Option ℕ
class_of_kind (kind.Class name) = Some name
class_of_kind (kind.Array dims element) = element_class element
class_of_kind _ = None

abbrev pub classes_of_kinds : List Kind → List ℕ
classes_of_kinds kinds = flat_map (λ k. option_to_list (class_of_kind k)) kinds

-- the class types of a root: its own class, where it is an instance method, and those of its parameters
abbrev pub receiver_type : List Class → Method → ℕ → List ℕ
receiver_type classes m id =
    if is_static m.flags then []
    else map (λ c. c.name) (option_to_list (option_and_then (slice_get classes) (class_of_method classes id)))

abbrev pub root_types : List Class → ℕ → List ℕ
root_types classes id = option_map_or (λ m. receiver_type classes m id ++ classes_of_kinds m.kinds.args) (method_at classes id) []

-- those of the instance fields of a class and of its superclasses
abbrev pub instance_types : List Field → List ℕ
instance_types fields = classes_of_kinds (map (λ f. f.kind) (filter (λ f. not (is_static f.flags)) fields))

abbrev pub field_types : List Class → (class : ℕ) → List ℕ
field_types classes class =
    flat_map (λ above. option_map_or (λ c. instance_types c.fields) (slice_get classes above) []) (option_map_or (class_and_above classes) (slice_get classes class) [])

-- the class of a number is concrete and goes by one of these names
abbrev pub is_within : List Class → List ℕ → (class : ℕ) → Bool
is_within classes names class = option_map_or (λ c. is_concrete c && list_any (fits classes c) names) (slice_get classes class) false

-- those that do, ascending
abbrev pub classes_within : List Class → List ℕ → List ℕ
classes_within classes names = filter (is_within classes names) (range_with_len 0 (length classes))

-- those of these names, and so many times over those of their fields
unfoldable pub seeds_after : List Class → (names : List ℕ) → (rounds : ℕ) → List ℕ
seeds_after classes names zero = classes_within classes names
seeds_after classes names (suc rounds) = classes_within classes (names ++ flat_map (field_types classes) (seeds_after classes names rounds))

-- the seed classes of roots; each round but the last finds a class more
abbrev pub seeds : List Class → (roots : List ℕ) → List ℕ
seeds classes roots = seeds_after classes (flat_map (root_types classes) roots) (length classes)

-- they hold the classes of the roots' types, and of the field types of each of them, and are within every set that does so
pub record AreLeastSeeds (classes : List Class) (roots among : List ℕ) : Type 0 where
  pub holds_roots : (class : ℕ) → IsTrue (is_within classes (flat_map (root_types classes) roots) class) → IsTrue (has_number among class)
  pub closed : (class field : ℕ) → IsTrue (has_number among class) → IsTrue (is_within classes (field_types classes class) field) → IsTrue (has_number among field)
  pub least : (others : ℕ → Bool)
      → ((class : ℕ) → IsTrue (is_within classes (flat_map (root_types classes) roots) class) → IsTrue (others class))
      → ((class field : ℕ) → IsTrue (others class) → IsTrue (is_within classes (field_types classes class) field) → IsTrue (others field))
      → (class : ℕ) → IsTrue (has_number among class) → IsTrue (others class)
