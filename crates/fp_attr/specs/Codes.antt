-- The `Code` attribute of a method (JVMS SE 21 section 4.7.3), up to the end of a window.
use Rattle.std.specs.Prelude.{ℕ, ◌+◌, ◌==◌, nat_le, nat_lt, Bool, ◌&&◌, ◌||◌, List, length, Result, Ok}
use Rattle.std.specs.Int.{w16, w32}
use Rattle.fp_model.specs.declared.fault.FileFault.{FileFault}
use Rattle.fp_model.specs.declared.fault.FileFault.TheVariants as fault
use Rattle.fp_model.specs.declared.raw.pool.Entry.{Entry}
use Rattle.fp_model.specs.declared.raw.attribute.CatchRow.{CatchRow}
use Rattle.fp_model.specs.declared.raw.attribute.RawIns.{RawIns}
use Rattle.fp_model.specs.declared.raw.attribute.RawAttr.{RawAttr}
use Rattle.fp_model.specs.declared.raw.attribute.RawBody.{RawBody}
use Rattle.fp_model.specs.declared.raw.attribute.RawBody.TheVariants as body
use Rattle.fp_model.specs.declared.raw.attribute.RawCode.{roll-RawCode}
use Rattle.fp_model.specs.Branches.{starts_at, targets_checked}
use Rattle.fp_model.specs.Decoding.{decoded}
use Rattle.fp_model.specs.Entries.{tag_at}
use Rattle.fp_model.specs.Reading.{behind, bytes_at, counted_at, demanded, number_at, ◌>>=◌}
use Rattle.fp_model.specs.References.{each_checked, tagged}
use Rattle.fp_model.specs.Spelling.{spelled_plain, spelled_row}
use Rattle.fp_attr.specs.declared.cut.Cut.{Cut}

-- a row of the exception table
unfoldable pub row_at : List ℕ → ℕ → Result (CatchRow × ℕ) FileFault
row_at bytes at = do
  start ← number_at w16 bytes at
  end ← number_at w16 bytes start.1
  handler ← number_at w16 bytes end.1
  class ← number_at w16 bytes handler.1
  Ok (record { start = start.0; end = end.0; handler = handler.0; class = class.0 }, class.1)

-- an attribute of the code, which is kept unread
unfoldable pub inner_at : List ℕ → ℕ → Result (RawAttr × ℕ) FileFault
inner_at bytes at = do
  name ← number_at w16 bytes at
  len ← number_at w32 bytes name.1
  held ← bytes_at len.0 bytes len.1
  Ok (record { name = name.0; body = body.Bytes held.0 }, held.1)

-- The parts of the code: where its bytes begin, the rows of the exception table and the attributes, with the offsets of
-- the first of these.
unfoldable pub cut_at : List ℕ → ℕ → Result Cut FileFault
cut_at window at = do
  max_stack ← number_at w16 window at
  max_locals ← number_at w16 window max_stack.1
  len ← number_at w32 window max_locals.1
  end ← behind len.0 window len.1
  rows ← counted_at (row_at window) window end
  attributes ← counted_at (inner_at window) window rows.1
  is_whole ← demanded (attributes.1 == length window) (fault.Trailing attributes.1)
  Ok (record { max_stack = max_stack.0; max_locals = max_locals.0; start = len.1; len = len.0; rows = rows.0; rows_at = end + 2; attributes = attributes.0; attributes_at = rows.1 + 2 })

-- a range of instructions of the code, and where its handler begins; it may end where the code does
abbrev pub is_range : List RawIns → (len : ℕ) → CatchRow → Bool
is_range code len row =
    nat_lt row.start row.end && (nat_le row.end len
    && (starts_at 0 code row.start && (starts_at 0 code row.handler
    && ((row.end == len) || starts_at 0 code row.end))))

-- a row at an offset, of a code of so many bytes; class 0 stands for any
unfoldable pub row_checked : List Entry → List RawIns → (len at : ℕ) → CatchRow → Result (Unit {0}) FileFault
row_checked entries code len at row = do
  ranges ← demanded (is_range code len row) (fault.Bounds at)
  demanded ((row.class == 0) || (tag_at entries row.class == 7)) (fault.Index (at + 6) row.class)

-- the name of an attribute at an offset is a text
abbrev pub name_checked : List Entry → (at : ℕ) → RawAttr → Result (Unit {0}) FileFault
name_checked entries at attr = tagged entries 1 at attr.name

-- The code of a method whose arguments take so many words. It is cut first; `max_locals` stands behind `max_stack`, and
-- the code's length behind that.
unfoldable pub code_at : List Entry → (words : ℕ) → List ℕ → ℕ → Result RawBody FileFault
code_at entries words window at = do
  cut ← cut_at window at
  has_room ← demanded (nat_le words cut.max_locals) (fault.Bounds (at + 2))
  has_size ← demanded (nat_lt 0 cut.len && nat_lt cut.len 65536) (fault.Bounds (at + 4))
  code ← decoded entries cut.max_locals cut.len window cut.start
  leads ← targets_checked code cut.start
  caught ← each_checked spelled_row (row_checked entries code cut.len) cut.rows_at cut.rows
  named ← each_checked spelled_plain (name_checked entries) cut.attributes_at cut.attributes
  Ok (body.Code (roll-RawCode (record { max_stack = cut.max_stack; max_locals = cut.max_locals; code = code; rows = cut.rows; attributes = cut.attributes })))
