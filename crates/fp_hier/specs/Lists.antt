-- The lists that are kept of a set.
use Rattle.std.specs.Prelude.{List}
use Rattle.fp_model.specs.declared.class.Class.{Class}
use Rattle.fp_hier.specs.Parts.{AreParts}
use Rattle.fp_hier.specs.Tables.{all_superinterfaces}
use Rattle.fp_hier.specs.declared.superinterfaces.Superinterfaces.{Superinterfaces}

-- the superinterfaces of each class
abbrev pub AreListsOf : List Class → Superinterfaces → Type 0
AreListsOf classes s = AreParts (all_superinterfaces classes) s.names.items s.parts.items
