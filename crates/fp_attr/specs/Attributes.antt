-- Attributes at an offset (JVMS SE 21 section 4.7): what each holds, with the offset after it, or the first fault.
use Rattle.std.specs.Prelude.{ℕ, ◌+◌, ◌-◌, ◌==◌, nat_le, Bool, ◌&&◌, ◌||◌, List, length, take, codes, Option, Result, Ok, if◌then◌else◌}
use Rattle.std.specs.Str.{bytes_eq}
use Rattle.std.specs.Int.{w16, w32}
use Rattle.fp_model.specs.declared.fault.FileFault.{FileFault}
use Rattle.fp_model.specs.declared.fault.FileFault.TheVariants as fault
use Rattle.fp_model.specs.declared.raw.pool.Entry.{Entry}
use Rattle.fp_model.specs.declared.raw.attribute.BootRow.{BootRow}
use Rattle.fp_model.specs.declared.raw.attribute.RawAttr.{RawAttr}
use Rattle.fp_model.specs.declared.raw.attribute.RawBody.{RawBody}
use Rattle.fp_model.specs.declared.raw.attribute.RawBody.TheVariants as body
use Rattle.fp_model.specs.Entries.{passes, tag_at, text_at}
use Rattle.fp_model.specs.Reading.{behind, bytes_at, counted_at, demanded, number_at, ◌>>=◌}
use Rattle.fp_model.specs.References.{each_checked, tagged}
use Rattle.fp_model.specs.Spelling.{spelled_boot, u2}
use Rattle.fp_attr.specs.declared.owner.Owner.{Owner}
use Rattle.fp_attr.specs.declared.owner.Owner.TheVariants as owner
use Rattle.fp_attr.specs.Codes.{code_at}

-- an attribute by its length alone: the offset behind it
unfoldable pub attribute_skipped : List ℕ → ℕ → Result ℕ FileFault
attribute_skipped bytes at = do
  name ← number_at w16 bytes at
  len ← number_at w32 bytes name.1
  behind len.0 bytes len.1

-- What an attribute holds is read in a window, which is the bytes up to where it ends.

-- what is kept unread
unfoldable pub unread_at : List ℕ → ℕ → Result RawBody FileFault
unread_at window at = do
  held ← bytes_at (length window - at) window at
  Ok (body.Bytes held.0)

-- the tags of the values that a field may be given (table 4.7.2-A)
abbrev pub is_value_tag : ℕ → Bool
is_value_tag tag = (nat_le 3 tag && nat_le tag 6) || (tag == 8)

-- the index of a value (section 4.7.2); its length stands at `len_at`
unfoldable pub constant_at : List Entry → (len_at : ℕ) → List ℕ → ℕ → Result RawBody FileFault
constant_at entries len_at window at = do
  is_short ← demanded (length window == at + 2) (fault.Bounds len_at)
  index ← number_at w16 window at
  is_value ← demanded (is_value_tag (tag_at entries index.0)) (fault.Index at index.0)
  Ok (body.Constant index.0)

-- a row of the bootstrap methods (section 4.7.23): a method handle, and the arguments
unfoldable pub boot_at : List ℕ → ℕ → Result (BootRow × ℕ) FileFault
boot_at bytes at = do
  method ← number_at w16 bytes at
  args ← counted_at (number_at w16 bytes) bytes method.1
  Ok (record { method = method.0; args = args.0 }, args.1)

-- the tags of constants that can be arguments (table 4.4-C)
abbrev pub is_argument_tag : ℕ → Bool
is_argument_tag tag = (nat_le 3 tag && nat_le tag 8) || (nat_le 15 tag && nat_le tag 17)

abbrev pub argument_checked : List Entry → (at index : ℕ) → Result (Unit {0}) FileFault
argument_checked entries at index = demanded (is_argument_tag (tag_at entries index)) (fault.Index at index)

-- a row at an offset
unfoldable pub boot_checked : List Entry → (at : ℕ) → BootRow → Result (Unit {0}) FileFault
boot_checked entries at row = do
  is_handle ← tagged entries 15 at row.method
  each_checked u2 (argument_checked entries) (at + 4) row.args

-- the rows are cut first, and what they refer to is looked at then
unfoldable pub boots_at : List Entry → List ℕ → ℕ → Result RawBody FileFault
boots_at entries window at = do
  rows ← counted_at (boot_at window) window at
  is_whole ← demanded (rows.1 == length window) (fault.Trailing rows.1)
  referred ← each_checked spelled_boot (boot_checked entries) (at + 2) rows.0
  Ok (body.Boot rows.0)

-- a name is that of the attribute
abbrev pub is_called : Option (List ℕ) → List ℕ → Bool
is_called name wanted = passes (bytes_eq wanted) name

-- what an attribute of an owner holds, by its name
unfoldable pub body_at : List Entry → Owner → Option (List ℕ) → (len_at : ℕ) → List ℕ → ℕ → Result RawBody FileFault
body_at entries owner.Field name len_at window at =
    if is_called name (codes "ConstantValue") then constant_at entries len_at window at else unread_at window at
body_at entries (owner.Method words) name len_at window at =
    if is_called name (codes "Code") then code_at entries words window at else unread_at window at
body_at entries owner.Class name len_at window at =
    if is_called name (codes "BootstrapMethods") then boots_at entries window at else unread_at window at
body_at entries owner.Code name len_at window at = unread_at window at

-- an attribute: it is cut by its length first, and then its name and what it holds are looked at
unfoldable pub attribute_at : List Entry → Owner → List ℕ → ℕ → Result (RawAttr × ℕ) FileFault
attribute_at entries owner bytes at = do
  name ← number_at w16 bytes at
  len ← number_at w32 bytes name.1
  end ← behind len.0 bytes len.1
  is_text ← tagged entries 1 at name.0
  held ← body_at entries owner (text_at entries name.0) name.1 (take end bytes) len.1
  Ok (record { name = name.0; body = held }, end)
