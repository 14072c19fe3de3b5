-- Which rows a class has a mark in, by the names that it goes by.
use Rattle.std.specs.Prelude.{◌≡◌, ◌<◌, ◌+◌, ◌==◌, ℕ, Bool, false, not, ◌&&◌, ◌||◌, List, ◌∷◌, length, slice_get, slice_index_or, Some}
use Rattle.std.specs.List.{list_any}
use Rattle.std.specs.Option.{option_map_or}
use Rattle.fp_model.specs.declared.class.Class.{Class}
use Rattle.fp_model.specs.ClassSet.{SetView, class_named}
use Rattle.fp_facts.specs.Hierarchy.{ancestors, is_array_name, is_object}
use Rattle.fp_hier.specs.BitRows.{HoldsRows, bit_of}
use Rattle.fp_hier.specs.declared.bit_rows.BitRows.{BitRows}

-- a class's own name and those of its ancestors
abbrev pub own_names : List Class → Class → List ℕ
own_names classes c = c.name ∷ ancestors classes c

-- The rows of a name outside the set, which stand behind those of the classes: of the classes with an ancestor outside that is not
-- `java/lang/Object`, with one at all, and with an array.
abbrev pub marks_outside : (first : ℕ) (object array : Bool) → (row : ℕ) → Bool
marks_outside first object array row = ((row == first) && not object) || ((row == first + 1) || ((row == first + 2) && array))

-- a class that goes by a name has a mark in the row
abbrev pub marks : SetView → (row name : ℕ) → Bool
marks set row name =
    option_map_or (λ id. row == id) (class_named set.classes name) (marks_outside (length set.classes) (is_object set.names name) (is_array_name set.names name) row)

-- one that goes by these names
abbrev pub marks_any : SetView → (row : ℕ) → List ℕ → Bool
marks_any set row names = list_any (marks set row) names

-- the classes that are told as marked have the marks of the names that they go by, and the others have none
pub record AreMarked (set : SetView) (marked : List Bool) (t : BitRows) : Type 0 where
  pub holds : HoldsRows t
  pub rows : t.rows ≡ length set.classes + 3
  pub columns : t.columns ≡ length set.classes
  pub long : length marked ≡ length set.classes
  pub bits : (c : Class) (row class : ℕ) → slice_get set.classes class ≡ Some c → row < length set.classes + 3 →
      bit_of t row class ≡ (slice_index_or marked class false && marks_any set row (own_names set.classes c))

-- all classes have the marks of the names that they go by
pub record AreAllMarked (set : SetView) (t : BitRows) : Type 0 where
  pub holds : HoldsRows t
  pub rows : t.rows ≡ length set.classes + 3
  pub columns : t.columns ≡ length set.classes
  pub marked : (c : Class) (row class : ℕ) → slice_get set.classes class ≡ Some c → row < length set.classes + 3 → bit_of t row class ≡ marks_any set row (own_names set.classes c)
