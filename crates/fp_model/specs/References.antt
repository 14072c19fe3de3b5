-- What the entries of a constant pool refer to (JVMS SE 21 section 4.4): the first fault in the order of the file.
use Rattle.std.specs.Prelude.{ℕ, ◌+◌, ◌==◌, nat_le, Bool, true, ◌&&◌, ◌||◌, not, List, [], ◌∷◌, length, slice_get, Option, Some, None, Result, Ok, if◌then◌else◌}
use Rattle.fp_model.specs.declared.fault.FileFault.{FileFault}
use Rattle.fp_model.specs.declared.fault.FileFault.TheVariants as fault
use Rattle.fp_model.specs.declared.raw.pool.Entry.{Entry}
use Rattle.fp_model.specs.declared.raw.pool.Entry.TheVariants as entry
use Rattle.fp_model.specs.declared.raw.pool.Pool.{Pool}
use Rattle.fp_model.specs.Descriptor.{is_class_text, is_field_descriptor, is_method_descriptor}
use Rattle.fp_model.specs.Pool.{pool_at}
use Rattle.fp_model.specs.Reading.{demanded, ◌>>=◌}
use Rattle.fp_model.specs.Spelling.{spelled_entry}
use Rattle.fp_model.specs.Entries.{tag_at, text_at}

-- the index, which stands at an offset, is that of an entry of the tag
abbrev pub tagged : List Entry → (wanted at index : ℕ) → Result (Unit {0}) FileFault
tagged entries wanted at index = demanded (tag_at entries index == wanted) (fault.Index at index)

-- a text passes the test, where there is one
abbrev pub holds_of : (List ℕ → Bool) → Option (List ℕ) → Bool
holds_of test None = true
holds_of test (Some text) = test text

-- the text of a descriptor passes the test, which is referred to at an offset
abbrev pub described : (List ℕ → Bool) → Option (List ℕ) → (at : ℕ) → Result (Unit {0}) FileFault
described test text at = demanded (holds_of test text) (fault.Descriptor at)

-- the index of the descriptor of a name and type, where there is one
abbrev pub descr_index_in : Option Entry → Option ℕ
descr_index_in (Some (entry.Pair name descr)) = Some descr
descr_index_in _ = None

abbrev pub descr_index_at : List Entry → (pair : ℕ) → Option ℕ
descr_index_at entries pair = descr_index_in (slice_get entries pair)

-- the text of its descriptor, where there is one
abbrev pub text_of_index : List Entry → Option ℕ → Option (List ℕ)
text_of_index entries None = None
text_of_index entries (Some index) = text_at entries index

abbrev pub descr_at : List Entry → (pair : ℕ) → Option (List ℕ)
descr_at entries pair = text_of_index entries (descr_index_at entries pair)

-- a descriptor of one sort or the other
abbrev pub is_descriptor : List ℕ → Bool
is_descriptor text = is_field_descriptor text || is_method_descriptor text

-- an entry with an index of a text alone
unfoldable pub text_checked : List Entry → (List ℕ → Bool) → (at index : ℕ) → Result (Unit {0}) FileFault
text_checked entries test at index = do
  is_text ← tagged entries 1 at index
  described test (text_at entries index) at

-- a name and type (section 4.4.6)
unfoldable pub pair_checked : List Entry → (at name descr : ℕ) → Result (Unit {0}) FileFault
pair_checked entries at name descr = do
  has_name ← tagged entries 1 (at + 1) name
  text_checked entries is_descriptor (at + 3) descr

-- an index of a name and type whose descriptor passes the test
unfoldable pub pair_described : List Entry → (List ℕ → Bool) → (at pair : ℕ) → Result (Unit {0}) FileFault
pair_described entries test at pair = do
  is_pair ← tagged entries 12 at pair
  described test (descr_at entries pair) at

-- a reference to a field or method (section 4.4.2), whose descriptor is not one of the other sort
unfoldable pub member_checked : List Entry → (List ℕ → Bool) → (at class pair : ℕ) → Result (Unit {0}) FileFault
member_checked entries test at class pair = do
  has_class ← tagged entries 7 (at + 1) class
  pair_described entries test (at + 3) pair

-- what a method handle of a kind refers to, by its tag (table 5.4.3.5-A)
abbrev pub suits_handle : (kind tag : ℕ) → Bool
suits_handle kind tag =
    if nat_le kind 4 then tag == 9
    else if (kind == 5) || (kind == 8) then tag == 10
    else if (kind == 6) || (kind == 7) then (tag == 10) || (tag == 11)
    else tag == 11

-- a method handle (section 4.4.8)
unfoldable pub handle_checked : List Entry → (at kind index : ℕ) → Result (Unit {0}) FileFault
handle_checked entries at kind index = do
  is_kind ← demanded (nat_le 1 kind && nat_le kind 9) (fault.Bounds (at + 1))
  demanded (suits_handle kind (tag_at entries index)) (fault.Index (at + 2) index)

-- any text
abbrev pub is_any : List ℕ → Bool
is_any text = true

-- an entry at an offset
unfoldable pub entry_checked : List Entry → (at : ℕ) → Entry → Result (Unit {0}) FileFault
entry_checked entries at (entry.Class name) = text_checked entries is_class_text (at + 1) name
entry_checked entries at (entry.Text text) = text_checked entries is_any (at + 1) text
entry_checked entries at (entry.FieldRef class pair) = member_checked entries (λ text. not (is_method_descriptor text)) at class pair
entry_checked entries at (entry.MethodRef class pair) = member_checked entries (λ text. not (is_field_descriptor text)) at class pair
entry_checked entries at (entry.InterfaceRef class pair) = member_checked entries (λ text. not (is_field_descriptor text)) at class pair
entry_checked entries at (entry.Pair name descr) = pair_checked entries at name descr
entry_checked entries at (entry.Handle kind index) = handle_checked entries at kind index
entry_checked entries at (entry.MethodType descr) = text_checked entries is_method_descriptor (at + 1) descr
entry_checked entries at (entry.Dynamic boot pair) = pair_described entries is_field_descriptor (at + 3) pair
entry_checked entries at (entry.InvokeDynamic boot pair) = pair_described entries is_method_descriptor (at + 3) pair
entry_checked entries at (entry.Module name) = text_checked entries is_any (at + 1) name
entry_checked entries at (entry.Package name) = text_checked entries is_any (at + 1) name
entry_checked entries at _ = Ok tt

-- each of these, where the spelling of the first of them begins at an offset
unfoldable pub each_checked : {A : Type 0} → (A → List ℕ) → (ℕ → A → Result (Unit {0}) FileFault) → (at : ℕ) → List A → Result (Unit {0}) FileFault
each_checked spelled check at [] = Ok tt
each_checked spelled check at (x ∷ xs) = do
  checked ← check at x
  each_checked spelled check (at + length (spelled x)) xs

-- the entries, the first of which is spelled at an offset, by what all of the pool hold
abbrev pub entries_checked : List Entry → (at : ℕ) → List Entry → Result (Unit {0}) FileFault
entries_checked entries = each_checked spelled_entry (entry_checked entries)

-- the constant pool at an offset, whose entries refer to what they have to
unfoldable pub checked_pool_at : List ℕ → ℕ → Result (Pool × ℕ) FileFault
checked_pool_at bytes at = do
  pool ← pool_at bytes at
  referred ← entries_checked pool.0.entries (at + 2) pool.0.entries
  Ok pool
