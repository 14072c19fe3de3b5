-- Which texts of a constant pool are field descriptors.
use Rattle.std.specs.Prelude.{Bool, List, Some, map}
use Rattle.fp_model.specs.declared.raw.pool.Entry.{Entry}
use Rattle.fp_model.specs.Descriptor.{is_field_descriptor}
use Rattle.fp_model.specs.Entries.{passes, text_in}

-- whether an entry is the text of a field descriptor
abbrev pub is_descriptor_entry : Entry → Bool
is_descriptor_entry e = passes is_field_descriptor (text_in (Some e))

-- the same for each index of the constant pool
abbrev pub descriptor_marks : List Entry → List Bool
descriptor_marks entries = map is_descriptor_entry entries
