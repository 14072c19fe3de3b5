-- A class and the classes above it, one after the other.
use Rattle.std.specs.Prelude.{ℕ, zero, suc, List, [], ◌∷◌, slice_get, Option, Some, None}
use Rattle.std.specs.Option.{option_map_or}
use Rattle.fp_model.specs.declared.class.Class.{Class}
use Rattle.fp_model.specs.ClassSet.{superclass_of}
use Rattle.fp_facts.specs.Hierarchy.{class_and_above}
use Rattle.fp_hier.specs.declared.lineage.Lineage.{Lineage}

-- the classes of the set from one up, at most so many
unfoldable pub lineage_from : List Class → (most : ℕ) → Option ℕ → List ℕ
lineage_from classes zero class = []
lineage_from classes (suc most) None = []
lineage_from classes (suc most) (Some id) = id ∷ lineage_from classes most (superclass_of classes id)

-- those that are still to come
abbrev pub rest_of : List Class → Lineage → List ℕ
rest_of classes l = lineage_from classes l.most l.first

-- the class of a number and its superclasses in the set
abbrev pub classes_up : List Class → ℕ → List ℕ
classes_up classes id = option_map_or (class_and_above classes) (slice_get classes id) []
