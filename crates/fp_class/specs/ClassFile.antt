-- Class files (JVMS SE 21 chapter 4): the file that bytes are, or the first fault in its phases.
use Rattle.std.specs.Prelude.{◌≡◌, ℕ, ◌+◌, ◌<◌, ◌^◌, ◌==◌, nat_lt, Bool, true, false, ◌&&◌, ◌||◌, List, [], ◌∷◌, length, codes, slice_index_or, Result, Ok, if◌then◌else◌}
use Rattle.std.specs.List.{list_any}
use Rattle.std.specs.Str.{bytes_eq}
pub use Rattle.fp_model.specs.Flags.{is_module}
use Rattle.fp_model.specs.declared.fault.FileFault.{FileFault}
use Rattle.fp_model.specs.declared.fault.FileFault.TheVariants as fault
use Rattle.fp_model.specs.declared.raw.pool.Entry.{Entry}
use Rattle.fp_model.specs.declared.raw.pool.Entry.TheVariants as entry
use Rattle.fp_model.specs.declared.raw.attribute.BootRow.{BootRow}
use Rattle.fp_model.specs.declared.raw.attribute.RawAttr.{RawAttr}
use Rattle.fp_model.specs.declared.raw.attribute.RawBody.{RawBody}
use Rattle.fp_model.specs.declared.raw.attribute.RawBody.TheVariants as body
use Rattle.fp_model.specs.declared.raw.Raw.{Raw}
use Rattle.fp_model.specs.Entries.{class_name_at, is_class_index, passes}
use Rattle.fp_model.specs.Reading.{demanded, ◌>>=◌}
use Rattle.fp_model.specs.References.{each_checked, entries_checked}
use Rattle.fp_model.specs.Spelling.{spelled, spelled_entry, u2}
use Rattle.fp_attr.specs.Attributes.{attribute_at}
use Rattle.fp_attr.specs.declared.owner.Owner.{Owner}
use Rattle.fp_attr.specs.declared.owner.Owner.TheVariants as owner
use Rattle.fp_class.specs.declared.layout.Layout.{Layout}
use Rattle.fp_class.specs.Layout.{layout_of}
use Rattle.fp_class.specs.Members.{counted_after, field_at, method_at}

-- the index of a superclass: a class, or 0 for `java/lang/Object` and in a module
abbrev pub is_parent : List Entry → (flags this parent : ℕ) → Bool
is_parent entries flags this parent =
    is_class_index entries parent
    || ((parent == 0) && (is_module flags || passes (bytes_eq (codes "java/lang/Object")) (class_name_at entries this)))

-- a superinterface
abbrev pub interface_checked : List Entry → (at index : ℕ) → Result (Unit {0}) FileFault
interface_checked entries at index = demanded (is_class_index entries index) (fault.Index at index)

-- this class, its superclass and its superinterfaces; the flags stand before them
unfoldable pub names_checked : List Entry → Layout → Result (Unit {0}) FileFault
names_checked entries layout = do
  is_class ← demanded (is_class_index entries layout.this) (fault.Index (layout.flags_at + 2) layout.this)
  has_parent ← demanded (is_parent entries layout.flags layout.this layout.parent) (fault.Index (layout.flags_at + 4) layout.parent)
  each_checked u2 (interface_checked entries) (layout.flags_at + 8) layout.interfaces

-- bootstrap methods
abbrev pub are_boots : RawAttr → Bool
are_boots attr = is_boot_body attr.body
  where
    is_boot_body : RawBody → Bool
    is_boot_body (body.Boot rows) = true
    is_boot_body _ = false

-- the first `BootstrapMethods` is read, and further ones are kept unread as the attributes of a code are
abbrev pub class_owner : (before : List RawAttr) → Owner
class_owner before = if list_any are_boots before then owner.Code else owner.Class

abbrev pub class_attribute_at : List Entry → List ℕ → (before : List RawAttr) → ℕ → Result (RawAttr × ℕ) FileFault
class_attribute_at entries bytes before at = attribute_at entries (class_owner before) bytes at

-- the rows of the bootstrap methods, none where there are none
abbrev pub rows_or : RawBody → List BootRow → List BootRow
rows_or (body.Boot rows) others = rows
rows_or _ others = others

abbrev pub boots_of : List RawAttr → List BootRow
boots_of [] = []
boots_of (attr ∷ attributes) = rows_or attr.body (boots_of attributes)

-- a constant that a bootstrap method computes has a row (sections 4.4.10 and 4.7.23)
abbrev pub row_checked : List BootRow → (at boot : ℕ) → Result (Unit {0}) FileFault
row_checked rows at boot = demanded (nat_lt boot (length rows)) (fault.Index at boot)

unfoldable pub boot_number_checked : List BootRow → (at : ℕ) → Entry → Result (Unit {0}) FileFault
boot_number_checked rows at (entry.Dynamic boot pair) = row_checked rows (at + 1) boot
boot_number_checked rows at (entry.InvokeDynamic boot pair) = row_checked rows (at + 1) boot
boot_number_checked rows at _ = Ok tt

-- where the first entry of the constant pool stands: behind the magic number, the versions and the count
abbrev pub entries_start : ℕ
entries_start = 10

-- the fields, the methods and the attributes of a file by its layout, and whether each constant that a bootstrap method
-- computes has a row
unfoldable pub parts_of : List ℕ → Layout → Result Raw FileFault
parts_of bytes layout = do
  fields ← counted_after (field_at layout.pool.entries bytes) bytes layout.fields_at
  methods ← counted_after (method_at layout.pool.entries bytes) bytes fields.1
  attributes ← counted_after (class_attribute_at layout.pool.entries bytes) bytes methods.1
  computed ← each_checked spelled_entry (boot_number_checked (boots_of attributes.0)) entries_start layout.pool.entries
  Ok (record { minor = layout.minor; major = layout.major; pool = layout.pool; flags = layout.flags; this = layout.this; parent = layout.parent; interfaces = layout.interfaces; fields = fields.0; methods = methods.0; attributes = attributes.0 })

-- the class file that the bytes are: its layout, what its constant pool refers to, the names of classes, and its parts
unfoldable pub class_of : List ℕ → Result Raw FileFault
class_of bytes = do
  layout ← layout_of bytes
  referred ← entries_checked layout.pool.entries entries_start layout.pool.entries
  named ← names_checked layout.pool.entries layout
  parts_of bytes layout

-- It is spelled by fewer than 2 ^ 32 bytes, no condition of the format is broken there, and its parts are those that its
-- spelling is cut into.
pub record IsWellFormed (raw : Raw) : Type 0 where
  pub short : length (spelled raw) < 2 ^ 32
  pub bytes : (i : ℕ) → slice_index_or (spelled raw) i 0 < 256
  pub read : class_of (spelled raw) ≡ Ok raw
