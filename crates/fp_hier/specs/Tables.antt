-- What is computed of a set once.
use Rattle.std.specs.Prelude.{ℕ, List, length, map}
use Rattle.std.specs.List.{range_with_len}
use Rattle.fp_model.specs.declared.class.Class.{Class}
use Rattle.fp_facts.specs.Hierarchy.{superinterfaces_at}

-- the superinterfaces of each class
abbrev pub all_superinterfaces : List Class → List (List ℕ)
all_superinterfaces classes = map (superinterfaces_at classes) (range_with_len 0 (length classes))
