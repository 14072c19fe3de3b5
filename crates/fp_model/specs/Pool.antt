-- The constant pool at an offset (JVMS SE 21 section 4.4): its entries with the offset after them, or the first fault.
use Rattle.std.specs.Prelude.{ℕ, zero, suc, ◌-◌, ◌==◌, Bool, true, false, ◌&&◌, ◌||◌, not, List, [], ◌∷◌, ◌++◌, Result, Ok, Err, if◌then◌else◌}
use Rattle.std.specs.Int.{Width, w8, w16, w32, w64}
use Rattle.fp_model.specs.declared.fault.FileFault.{FileFault}
use Rattle.fp_model.specs.declared.fault.FileFault.TheVariants as fault
use Rattle.fp_model.specs.declared.raw.pool.Entry.{Entry}
use Rattle.fp_model.specs.declared.raw.pool.Entry.TheVariants as entry
use Rattle.fp_model.specs.declared.raw.pool.Pool.{Pool}
use Rattle.fp_model.specs.Reading.{demanded, number_at, bytes_at, ◌>>=◌}

-- a text: its length, and its bytes (section 4.4.7)
unfoldable pub text_entry_at : List ℕ → ℕ → Result (Entry × ℕ) FileFault
text_entry_at bytes at = do
  count ← number_at w16 bytes at
  text ← bytes_at count.0 bytes count.1
  Ok (entry.Utf8 text.0, text.1)

-- an entry of one number
unfoldable pub one_at : Width → (ℕ → Entry) → List ℕ → ℕ → Result (Entry × ℕ) FileFault
one_at width made bytes at = do
  n ← number_at width bytes at
  Ok (made n.0, n.1)

-- two numbers of two bytes
unfoldable pub two_numbers_at : List ℕ → ℕ → Result ((ℕ × ℕ) × ℕ) FileFault
two_numbers_at bytes at = do
  m ← number_at w16 bytes at
  n ← number_at w16 bytes m.1
  Ok ((m.0, n.0), n.1)

-- an entry of two such numbers
unfoldable pub two_at : (ℕ → ℕ → Entry) → List ℕ → ℕ → Result (Entry × ℕ) FileFault
two_at made bytes at = do
  n ← two_numbers_at bytes at
  Ok (made n.0.0 n.0.1, n.1)

-- a method handle: its kind, and an index (section 4.4.8)
unfoldable pub handle_at : List ℕ → ℕ → Result (Entry × ℕ) FileFault
handle_at bytes at = do
  kind ← number_at w8 bytes at
  index ← number_at w16 bytes kind.1
  Ok (entry.Handle kind.0 index.0, index.1)

-- The entry of a tag (table 4.4-A), which stands at an offset of its own: an entry of two indexes
unfoldable pub pair_entry_at : (tag_at tag : ℕ) → List ℕ → ℕ → Result (Entry × ℕ) FileFault
pair_entry_at tag_at tag bytes at =
    if tag == 9 then two_at entry.FieldRef bytes at
    else if tag == 10 then two_at entry.MethodRef bytes at
    else if tag == 11 then two_at entry.InterfaceRef bytes at
    else if tag == 12 then two_at entry.Pair bytes at
    else if tag == 17 then two_at entry.Dynamic bytes at
    else if tag == 18 then two_at entry.InvokeDynamic bytes at
    else Err (fault.Tag tag_at tag)

-- or of one index
unfoldable pub index_entry_at : (tag_at tag : ℕ) → List ℕ → ℕ → Result (Entry × ℕ) FileFault
index_entry_at tag_at tag bytes at =
    if tag == 7 then one_at w16 entry.Class bytes at
    else if tag == 8 then one_at w16 entry.Text bytes at
    else if tag == 16 then one_at w16 entry.MethodType bytes at
    else if tag == 19 then one_at w16 entry.Module bytes at
    else if tag == 20 then one_at w16 entry.Package bytes at
    else pair_entry_at tag_at tag bytes at

-- or a constant or a handle; a tag that is none of the table's is a fault where it stands
unfoldable pub tagged_at : (tag_at tag : ℕ) → List ℕ → ℕ → Result (Entry × ℕ) FileFault
tagged_at tag_at tag bytes at =
    if tag == 1 then text_entry_at bytes at
    else if tag == 3 then one_at w32 entry.Integer bytes at
    else if tag == 4 then one_at w32 entry.Float bytes at
    else if tag == 5 then one_at w64 entry.Long bytes at
    else if tag == 6 then one_at w64 entry.Double bytes at
    else if tag == 15 then handle_at bytes at
    else index_entry_at tag_at tag bytes at

-- the tags of the entries that take two indexes (section 4.4.5)
abbrev pub is_wide_tag : ℕ → Bool
is_wide_tag tag = (tag == 5) || (tag == 6)

-- an entry that takes two indexes
abbrev pub is_wide : Entry → Bool
is_wide (entry.Long bits) = true
is_wide (entry.Double bits) = true
is_wide _ = false

-- What an index holds behind which so many are left, up to the last: nothing where it is empty, else an entry. One that
-- takes two indexes is a fault where it stands if no index is left for it.
unfoldable pub slot_at : (last left : ℕ) → (empty : Bool) → List ℕ → ℕ → Result (Entry × ℕ) FileFault
slot_at last left empty bytes at = if empty then Ok (entry.Unused, at) else do
  tag ← number_at w8 bytes at
  has_room ← demanded (not (is_wide_tag tag.0 && (left == 0))) (fault.Index at last)
  tagged_at at tag.0 bytes tag.1

-- What the indexes that are left hold, behind those before: the one behind a Long or Double is empty.
unfoldable pub slots_at : (last left : ℕ) → (before : List Entry) → (empty : Bool) → List ℕ → ℕ → Result (List Entry × ℕ) FileFault
slots_at last zero before empty bytes at = Ok (before, at)
slots_at last (suc left) before empty bytes at = do
  slot ← slot_at last left empty bytes at
  slots_at last left (before ++ slot.0 ∷ []) (is_wide slot.0) bytes slot.1

-- how many indexes there are, and what they hold; index 0 is empty
unfoldable pub pool_at : List ℕ → ℕ → Result (Pool × ℕ) FileFault
pool_at bytes at = do
  count ← number_at w16 bytes at
  has_first ← demanded (not (count.0 == 0)) (fault.Bounds at)
  slots ← slots_at (count.0 - 1) count.0 [] true bytes count.1
  Ok (record { entries = slots.0 }, slots.1)
