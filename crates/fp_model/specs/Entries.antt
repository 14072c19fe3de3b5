-- What stands at an index of the constant pool (JVMS SE 21 section 4.4).
use Rattle.std.specs.Prelude.{ℕ, Bool, false, not, List, slice_get, Option, Some, None}
use Rattle.fp_model.specs.declared.raw.pool.Entry.{Entry}
use Rattle.fp_model.specs.declared.raw.pool.Entry.TheVariants as entry
use Rattle.fp_model.specs.Descriptor.{is_array_like}

-- the test is passed by what is there
abbrev pub passes : {A : Type 0} → (A → Bool) → Option A → Bool
passes test None = false
passes test (Some x) = test x

-- the text of an entry, where it is one
abbrev pub text_in : Option Entry → Option (List ℕ)
text_in (Some (entry.Utf8 text)) = Some text
text_in _ = None

-- the text at an index
abbrev pub text_at : List Entry → ℕ → Option (List ℕ)
text_at entries index = text_in (slice_get entries index)

-- the name of the class that an entry stands for
abbrev pub class_name_in : List Entry → Option Entry → Option (List ℕ)
class_name_in entries (Some (entry.Class name)) = text_at entries name
class_name_in entries _ = None

-- the name of the class at an index
abbrev pub class_name_at : List Entry → ℕ → Option (List ℕ)
class_name_at entries index = class_name_in entries (slice_get entries index)

-- the index is that of a class which is no array
abbrev pub is_class_index : List Entry → ℕ → Bool
is_class_index entries index = passes (λ name. not (is_array_like name)) (class_name_at entries index)

-- the tag of an entry (table 4.4-A), 0 for what holds none
abbrev pub tag_of : Entry → ℕ
tag_of entry.Unused = 0
tag_of (entry.Utf8 text) = 1
tag_of (entry.Integer bits) = 3
tag_of (entry.Float bits) = 4
tag_of (entry.Long bits) = 5
tag_of (entry.Double bits) = 6
tag_of (entry.Class name) = 7
tag_of (entry.Text text) = 8
tag_of (entry.FieldRef class pair) = 9
tag_of (entry.MethodRef class pair) = 10
tag_of (entry.InterfaceRef class pair) = 11
tag_of (entry.Pair name descr) = 12
tag_of (entry.Handle kind index) = 15
tag_of (entry.MethodType descr) = 16
tag_of (entry.Dynamic boot pair) = 17
tag_of (entry.InvokeDynamic boot pair) = 18
tag_of (entry.Module name) = 19
tag_of (entry.Package name) = 20

abbrev pub tag_in : Option Entry → ℕ
tag_in None = 0
tag_in (Some e) = tag_of e

-- the tag of the entry at an index, 0 where there is none
abbrev pub tag_at : List Entry → ℕ → ℕ
tag_at entries index = tag_in (slice_get entries index)
