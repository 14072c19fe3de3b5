-- What the rows of receivers tell.
use Rattle.std.specs.Prelude.{◌&&◌, ℕ, Bool, false, List, filter, length, slice_get}
use Rattle.std.specs.List.{range_with_len}
use Rattle.std.specs.Option.{option_map_or}
use Rattle.fp_model.specs.declared.class.Class.{Class}
use Rattle.fp_model.specs.ClassSet.{SetView}
use Rattle.fp_facts.specs.Hierarchy.{fits, is_concrete}
use Rattle.fp_hier.specs.BitRows.{bit_of}
use Rattle.fp_hier.specs.Marks.{AreAllMarked}
use Rattle.fp_hier.specs.declared.receivers.Receivers.{Receivers}

-- a class has a mark in a row, and is concrete
abbrev pub is_marked : SetView → Receivers → (row class : ℕ) → Bool
is_marked set r row class = bit_of r.rows row class && option_map_or is_concrete (slice_get set.classes class) false

-- those classes, ascending
abbrev pub marked_in : SetView → Receivers → (row : ℕ) → List ℕ
marked_in set r row = filter (is_marked set r row) (range_with_len 0 (length set.classes))

-- the class of a number goes by the name
abbrev pub fits_at : List Class → (name class : ℕ) → Bool
fits_at classes name class = option_map_or (λ c. fits classes c name) (slice_get classes class) false

-- each class has the marks of the names that it goes by
abbrev pub AreReceiversOf : SetView → Receivers → Type 0
AreReceiversOf set r = AreAllMarked set r.rows
