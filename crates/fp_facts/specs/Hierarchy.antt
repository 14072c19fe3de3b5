-- The hierarchy of a set of classes: superclasses, superinterfaces, and which names a class goes by (JVMS SE 21 sections 4.1 and 5.4.3).
use Rattle.std.specs.Prelude.{◌≡◌, ℕ, IsTrue, zero, suc, ◌+◌, ◌==◌, Bool, not, ◌&&◌, ◌||◌, List, [], ◌∷◌, ◌++◌, length, codes, fold, slice_get, slice_index, is_none, Option, Some, None, option_and_then, if◌then◌else◌}
use Rattle.std.specs.List.{list_any, flat_map}
use Rattle.std.specs.Option.{option_map_or, option_to_list}
use Rattle.std.specs.Str.{bytes_eq}
use Rattle.fp_model.specs.declared.class.Class.{Class}
use Rattle.fp_model.specs.ClassSet.{SetView, class_named}
use Rattle.fp_model.specs.Descriptor.{text_of}
use Rattle.fp_model.specs.Flags as access

-- ---- classes by their names

-- the class of a name, where it is in the set
abbrev pub class_of_name : List Class → ℕ → Option Class
class_of_name classes name = option_and_then (slice_get classes) (class_named classes name)

-- the name is of no class in the set; no array is in a set
abbrev pub is_outside : List Class → ℕ → Bool
is_outside classes name = is_none (class_named classes name)

abbrev pub is_array_name : List (List ℕ) → ℕ → Bool
is_array_name names name = slice_index (text_of names name) 0 == 91

abbrev pub is_object : List (List ℕ) → ℕ → Bool
is_object names name = bytes_eq (text_of names name) (codes "java/lang/Object")

-- access flags: ACC_INTERFACE, and neither it nor ACC_ABSTRACT (table 4.1-B)
abbrev pub is_interface : Class → Bool
is_interface c = access.is_interface c.flags

abbrev pub is_concrete : Class → Bool
is_concrete c = access.is_concrete c.flags

-- ---- ancestors

abbrev pub has_number : List ℕ → ℕ → Bool
has_number numbers n = list_any (λ m. m == n) numbers

-- the names of superclasses from one up, at most so many; a name outside the set is the last
unfoldable pub superclasses_from : List Class → (most : ℕ) → Option ℕ → List ℕ
superclasses_from classes zero name = []
superclasses_from classes (suc most) None = []
superclasses_from classes (suc most) (Some name) = name ∷ superclasses_from classes most (option_and_then (λ c. c.parent) (class_of_name classes name))

-- those of a class, from the nearest up: in a set without cycles there are at most as many as there are classes
abbrev pub superclasses : List Class → Class → List ℕ
superclasses classes c = superclasses_from classes (length classes) c.parent

-- the direct superinterfaces of the class of a name, none where it is outside the set
abbrev pub superinterfaces_of : List Class → ℕ → List ℕ
superinterfaces_of classes name = option_map_or (λ c. c.interfaces) (class_of_name classes name) []

-- the names behind those that were met, each followed by what its class extends, depth first and in the order of the files;
-- a name that was met is passed over. Each level but the last has met one class of the set more.
unfoldable pub met_from : List Class → (levels : ℕ) → (met names : List ℕ) → List ℕ
met_from classes zero met names = met
met_from classes (suc levels) met names =
    fold (λ seen name. if has_number seen name then seen else met_from classes levels (seen ++ name ∷ []) (superinterfaces_of classes name)) met names

-- the superinterfaces of a class by its own list, each name once; interfaces that lead in a ring end by being met
abbrev pub superinterfaces : List Class → Class → List ℕ
superinterfaces classes c = met_from classes (length classes + 1) [] c.interfaces

-- the classes of the set among names, by their numbers
abbrev pub classes_among : List Class → List ℕ → List ℕ
classes_among classes names = flat_map (λ name. option_to_list (class_named classes name)) names

-- a class of the set and its superclasses in the set, by their numbers
abbrev pub class_and_above : List Class → Class → List ℕ
class_and_above classes c = classes_among classes (c.name ∷ superclasses classes c)

-- the superinterfaces of the class of a number
abbrev pub superinterfaces_at : List Class → ℕ → List ℕ
superinterfaces_at classes id = option_map_or (superinterfaces classes) (slice_get classes id) []

-- the ancestors of a class in the order in which they are looked through: its superclasses from the nearest up, and then the
-- superinterfaces of the class and of these; what a name gives is given where it stands first
abbrev pub ancestors : List Class → Class → List ℕ
ancestors classes c = superclasses classes c ++ flat_map (superinterfaces_at classes) (class_and_above classes c)

-- the ancestors hold the superclass of the class and of each of its superclasses, and the superinterfaces of the class and of each of
-- them that is in the set
pub record AreClosed (classes : List Class) (c : Class) : Type 0 where
  pub superclass : (above : ℕ) → c.parent ≡ Some above → IsTrue (has_number (superclasses classes c) above)
  pub superclasses_above : (name above : ℕ) (d : Class) → IsTrue (has_number (superclasses classes c) name) → class_of_name classes name ≡ Some d → d.parent ≡ Some above → IsTrue (has_number (superclasses classes c) above)
  pub superclasses_among : (name : ℕ) → IsTrue (has_number (superclasses classes c) name) → IsTrue (has_number (ancestors classes c) name)
  pub interfaces : (above : ℕ) → IsTrue (has_number c.interfaces above) → IsTrue (has_number (ancestors classes c) above)
  pub interfaces_above : (name above : ℕ) (d : Class) → IsTrue (has_number (ancestors classes c) name) → class_of_name classes name ≡ Some d → IsTrue (has_number d.interfaces above) → IsTrue (has_number (ancestors classes c) above)

-- ---- which names a class goes by

-- the name is the class's own, or an ancestor's
abbrev pub fits : List Class → Class → ℕ → Bool
fits classes c name = (c.name == name) || has_number (ancestors classes c) name

-- some ancestor is outside the set, and not `java/lang/Object`
abbrev pub has_outside_ancestor : SetView → Class → Bool
has_outside_ancestor set c = list_any (λ name. is_outside set.classes name && not (is_object set.names name)) (ancestors set.classes c)

-- its objects may be of the class of a name, as far as the set tells: an outside class may be above an outside ancestor
abbrev pub may_fit : SetView → Class → ℕ → Bool
may_fit set c name =
    fits set.classes c name
    || (is_outside set.classes name && (not (is_array_name set.names name) && has_outside_ancestor set c))
