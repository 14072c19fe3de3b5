-- Which texts of a constant pool are descriptors.
use Rattle.std.specs.Prelude.{ℕ, List, Option, Some, map, option_map}
use Rattle.fp_model.specs.declared.raw.pool.Entry.{Entry}
use Rattle.fp_model.specs.Descriptor.{is_field_descriptor, is_method_descriptor}
use Rattle.fp_model.specs.Entries.{text_in}
use Rattle.fp_pool.specs.declared.sorts.Sorts.{Sorts}

-- what a text is
abbrev pub sorts_of : List ℕ → Sorts
sorts_of text = record { field = is_field_descriptor text; method = is_method_descriptor text }

-- what an entry is, where it is a text
abbrev pub sorts_in : Entry → Option Sorts
sorts_in e = option_map sorts_of (text_in (Some e))

-- the same for each index of the constant pool
abbrev pub sort_marks : List Entry → List (Option Sorts)
sort_marks entries = map sorts_in entries
