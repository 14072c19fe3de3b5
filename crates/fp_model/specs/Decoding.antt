-- Decoding: the instructions that the bytes of a code spell (JVMS SE 21 section 4.7.3), by the operands of each opcode (section 6.5)
-- and what these have to be (section 4.9.1), or the first fault.
use Rattle.std.specs.Prelude.{ℕ, zero, suc, ◌+◌, ◌-◌, ◌*◌, ◌%◌, ◌^◌, ◌==◌, nat_le, nat_lt, min, Bool, true, false, ◌&&◌, ◌||◌, List, [], ◌∷◌, ◌++◌, length, take, codes, slice_get, Option, Some, Result, Ok, Err, if◌then◌else◌}
use Rattle.std.specs.Str.{bytes_eq}
use Rattle.std.specs.Int.{w8, w16, w32}
use Rattle.fp_model.specs.declared.fault.FileFault.{FileFault}
use Rattle.fp_model.specs.declared.fault.FileFault.TheVariants as fault
use Rattle.fp_model.specs.declared.form.Form.{Form}
use Rattle.fp_model.specs.declared.form.Form.TheVariants as form
use Rattle.fp_model.specs.declared.raw.pool.Entry.{Entry}
use Rattle.fp_model.specs.declared.raw.pool.Entry.TheVariants as entry
use Rattle.fp_model.specs.declared.raw.attribute.RawIns.{RawIns}
use Rattle.fp_model.specs.Descriptor.{dimensions}
use Rattle.fp_model.specs.Form.{form_of}
use Rattle.fp_model.specs.Reading.{behind, demanded, number_at, bytes_at, ◌>>=◌}
use Rattle.fp_model.specs.Entries.{tag_at, passes, class_name_at, is_class_index}
use Rattle.fp_model.specs.References.{descr_at, holds_of}

-- ---- what an instruction asks of the constant pool

-- the type of a descriptor takes two words: long or double
abbrev pub is_two_words : List ℕ → Bool
is_two_words descr = bytes_eq descr (codes "J") || bytes_eq descr (codes "D")

-- how many words a constant takes that can be loaded, and 0 for what can't (section 5.1); a dynamic one takes those of
-- its descriptor
abbrev pub constant_words : List Entry → Option Entry → ℕ
constant_words entries (Some (entry.Integer bits)) = 1
constant_words entries (Some (entry.Float bits)) = 1
constant_words entries (Some (entry.Long bits)) = 2
constant_words entries (Some (entry.Double bits)) = 2
constant_words entries (Some (entry.Class name)) = 1
constant_words entries (Some (entry.Text text)) = 1
constant_words entries (Some (entry.Handle kind index)) = 1
constant_words entries (Some (entry.MethodType descr)) = 1
constant_words entries (Some (entry.Dynamic boot pair)) = if passes is_two_words (descr_at entries pair) then 2 else 1
constant_words entries _ = 0

-- an index, which stands at an offset, refers to a constant of so many words
abbrev pub loadable : List Entry → (at index words : ℕ) → Result (Unit {0}) FileFault
loadable entries at index words = demanded (constant_words entries (slice_get entries index) == words) (fault.Index at index)

-- an index, which stands at an offset, refers to an entry with one of two tags
abbrev pub refers : List Entry → (at index tag or_tag : ℕ) → Result (Unit {0}) FileFault
refers entries at index tag or_tag = demanded ((tag_at entries index == tag) || (tag_at entries index == or_tag)) (fault.Index at index)

-- a class has so many dimensions; of what is no class nothing is asked
abbrev pub has_dimensions : ℕ → Option (List ℕ) → Bool
has_dimensions dims = holds_of (λ name. nat_le dims (dimensions name))

-- ---- operands

-- a local and its words lie in the frame
abbrev pub within : (max_locals op_at local words : ℕ) → Result (Unit {0}) FileFault
within max_locals op_at local words = demanded (nat_le (local + words) max_locals) (fault.Bounds op_at)

-- numbers of four bytes in the order of their signed values
abbrev pub signed_rank : ℕ → ℕ
signed_rank n = (n + 2 ^ 31) % 2 ^ 32

-- Where the operands end that begin at an offset. The opcode stands at `op_at`.

unfoldable pub local_end : (max_locals op_at words : ℕ) → List ℕ → ℕ → Result ℕ FileFault
local_end max_locals op_at words bytes at = do
  local ← number_at w8 bytes at
  fits ← within max_locals op_at local.0 words
  Ok local.1

unfoldable pub increment_end : (max_locals op_at : ℕ) → List ℕ → ℕ → Result ℕ FileFault
increment_end max_locals op_at bytes at = do
  local ← number_at w8 bytes at
  by ← number_at w8 bytes local.1
  fits ← within max_locals op_at local.0 1
  Ok by.1

-- the default, the lowest and the highest key, and an offset for each key from the lowest to the highest
unfoldable pub table_end : ℕ → List ℕ → ℕ → Result ℕ FileFault
table_end op_at bytes at = do
  other ← number_at w32 bytes at
  low ← number_at w32 bytes other.1
  high ← number_at w32 bytes low.1
  ordered ← demanded (nat_le (signed_rank low.0) (signed_rank high.0)) (fault.Bounds op_at)
  lies ← demanded (nat_le (high.1 + 4 * (signed_rank high.0 - signed_rank low.0 + 1)) (length bytes)) (fault.Bounds op_at)
  Ok (high.1 + 4 * (signed_rank high.0 - signed_rank low.0 + 1))

-- a pair whose key is at least of so high a rank: what the rank of the next key has to reach, and the offset behind the pair
unfoldable pub pair_at : (op_at least : ℕ) → List ℕ → ℕ → Result (ℕ × ℕ) FileFault
pair_at op_at least bytes at = do
  key ← number_at w32 bytes at
  place ← number_at w32 bytes key.1
  ascends ← demanded (nat_le least (signed_rank key.0)) (fault.Bounds op_at)
  Ok (signed_rank key.0 + 1, place.1)

-- so many pairs, whose keys ascend
unfoldable pub pairs_end : (op_at : ℕ) → ℕ → ℕ → List ℕ → ℕ → Result ℕ FileFault
pairs_end op_at zero least bytes at = Ok at
pairs_end op_at (suc left) least bytes at = do
  pair ← pair_at op_at least bytes at
  pairs_end op_at left pair.0 bytes pair.1

-- the default, the number of pairs, and the pairs of a key and an offset
unfoldable pub lookup_end : ℕ → List ℕ → ℕ → Result ℕ FileFault
lookup_end op_at bytes at = do
  other ← number_at w32 bytes at
  count ← number_at w32 bytes other.1
  natural ← demanded (nat_lt count.0 (2 ^ 31)) (fault.Bounds op_at)
  lies ← demanded (nat_le (count.1 + 8 * count.0) (length bytes)) (fault.Bounds op_at)
  pairs_end op_at count.0 0 bytes count.1

unfoldable pub short_constant_end : List Entry → List ℕ → ℕ → Result ℕ FileFault
short_constant_end entries bytes at = do
  index ← number_at w8 bytes at
  loads ← loadable entries at index.0 1
  Ok index.1

unfoldable pub constant_end : List Entry → ℕ → List ℕ → ℕ → Result ℕ FileFault
constant_end entries words bytes at = do
  index ← number_at w16 bytes at
  loads ← loadable entries at index.0 words
  Ok index.1

unfoldable pub refers_end : List Entry → (tag or_tag : ℕ) → List ℕ → ℕ → Result ℕ FileFault
refers_end entries tag or_tag bytes at = do
  index ← number_at w16 bytes at
  tagged ← refers entries at index.0 tag or_tag
  Ok index.1

-- the count is not looked at
unfoldable pub invoke_interface_end : List Entry → ℕ → List ℕ → ℕ → Result ℕ FileFault
invoke_interface_end entries op_at bytes at = do
  index ← number_at w16 bytes at
  count ← number_at w8 bytes index.1
  last ← number_at w8 bytes count.1
  is_zero ← demanded (last.0 == 0) (fault.Bounds op_at)
  tagged ← refers entries at index.0 11 11
  Ok last.1

unfoldable pub invoke_dynamic_end : List Entry → ℕ → List ℕ → ℕ → Result ℕ FileFault
invoke_dynamic_end entries op_at bytes at = do
  index ← number_at w16 bytes at
  third ← number_at w8 bytes index.1
  last ← number_at w8 bytes third.1
  are_zero ← demanded ((third.0 == 0) && (last.0 == 0)) (fault.Bounds op_at)
  tagged ← refers entries at index.0 18 18
  Ok last.1

unfoldable pub new_end : List Entry → List ℕ → ℕ → Result ℕ FileFault
new_end entries bytes at = do
  index ← number_at w16 bytes at
  is_class ← demanded (is_class_index entries index.0) (fault.Index at index.0)
  Ok index.1

-- the codes of primitive types are 4 to 11
unfoldable pub new_array_end : ℕ → List ℕ → ℕ → Result ℕ FileFault
new_array_end op_at bytes at = do
  code ← number_at w8 bytes at
  is_type ← demanded (nat_le 4 code.0 && nat_le code.0 11) (fault.Bounds op_at)
  Ok code.1

unfoldable pub multi_new_array_end : List Entry → ℕ → List ℕ → ℕ → Result ℕ FileFault
multi_new_array_end entries op_at bytes at = do
  index ← number_at w16 bytes at
  dims ← number_at w8 bytes index.1
  fits ← demanded (nat_lt 0 dims.0 && has_dimensions dims.0 (class_name_at entries index.0)) (fault.Bounds op_at)
  tagged ← refers entries at index.0 7 7
  Ok dims.1

-- the same by the form
unfoldable pub operands_end : List Entry → (max_locals op_at op : ℕ) → Form → List ℕ → ℕ → Result ℕ FileFault
operands_end entries max_locals op_at op form.Subroutine bytes at = Err (fault.Subroutine op_at)
operands_end entries max_locals op_at op form.Plain bytes at = Ok at
operands_end entries max_locals op_at op (form.Push size) bytes at = behind size bytes at
operands_end entries max_locals op_at op (form.Local words) bytes at = local_end max_locals op_at words bytes at
operands_end entries max_locals op_at op (form.Near local words) bytes at = do
  fits ← within max_locals op_at local words
  Ok at
operands_end entries max_locals op_at op form.Increment bytes at = increment_end max_locals op_at bytes at
operands_end entries max_locals op_at op (form.Branch size) bytes at = behind size bytes at
operands_end entries max_locals op_at op form.TableSwitch bytes at = table_end op_at bytes at
operands_end entries max_locals op_at op form.LookupSwitch bytes at = lookup_end op_at bytes at
operands_end entries max_locals op_at op form.ShortConstant bytes at = short_constant_end entries bytes at
operands_end entries max_locals op_at op (form.Constant words) bytes at = constant_end entries words bytes at
operands_end entries max_locals op_at op (form.Refers tag or_tag) bytes at = refers_end entries tag or_tag bytes at
operands_end entries max_locals op_at op form.InvokeInterface bytes at = invoke_interface_end entries op_at bytes at
operands_end entries max_locals op_at op form.InvokeDynamic bytes at = invoke_dynamic_end entries op_at bytes at
operands_end entries max_locals op_at op form.New bytes at = new_end entries bytes at
operands_end entries max_locals op_at op form.NewArray bytes at = new_array_end op_at bytes at
operands_end entries max_locals op_at op form.MultiNewArray bytes at = multi_new_array_end entries op_at bytes at
operands_end entries max_locals op_at op form.Unknown bytes at = Err (fault.Opcode op_at op)

-- The same behind `wide`, which stands at `wide_at`.

unfoldable pub wide_local_end : (max_locals wide_at words : ℕ) → List ℕ → ℕ → Result ℕ FileFault
wide_local_end max_locals wide_at words bytes at = do
  local ← number_at w16 bytes at
  fits ← within max_locals wide_at local.0 words
  Ok local.1

unfoldable pub wide_increment_end : (max_locals wide_at : ℕ) → List ℕ → ℕ → Result ℕ FileFault
wide_increment_end max_locals wide_at bytes at = do
  local ← number_at w16 bytes at
  by ← number_at w16 bytes local.1
  fits ← within max_locals wide_at local.0 1
  Ok by.1

-- the opcode behind `wide` stands at `op_at`, and is a load, a store or `iinc`
unfoldable pub wide_end : (max_locals wide_at op_at op : ℕ) → Form → List ℕ → ℕ → Result ℕ FileFault
wide_end max_locals wide_at op_at op (form.Local words) bytes at = wide_local_end max_locals wide_at words bytes at
wide_end max_locals wide_at op_at op form.Increment bytes at = wide_increment_end max_locals wide_at bytes at
wide_end max_locals wide_at op_at op _ bytes at = if op == 169 then Err (fault.Subroutine op_at) else Err (fault.Opcode op_at op)

-- ---- instructions

-- how many bytes stand before the operands of a switch, so that these begin at a multiple of four bytes from the code's start
abbrev pub padding_len : (start op_at : ℕ) → Form → ℕ
padding_len start op_at form.TableSwitch = 3 - (op_at - start) % 4
padding_len start op_at form.LookupSwitch = 3 - (op_at - start) % 4
padding_len start op_at _ = 0

-- An instruction by its opcode at `op_at`, behind which `at` is. Its operands are the bytes up to where they end. Where
-- the padding doesn't fit, the first operand doesn't either; no offset is told beyond the greatest of 32 bits.
unfoldable pub plain_at : List Entry → (max_locals start op_at op : ℕ) → Form → List ℕ → ℕ → Result (RawIns × ℕ) FileFault
plain_at entries max_locals start op_at op f bytes at = do
  end ← operands_end entries max_locals op_at op f bytes (min (at + padding_len start op_at f) 0xFFFFFFFF)
  padding ← bytes_at (padding_len start op_at f) bytes at
  args ← bytes_at (end - padding.1) bytes padding.1
  Ok (record { op = op; wide = false; padding = padding.0; args = args.0 }, args.1)

-- an instruction behind `wide`
unfoldable pub widened_at : (max_locals wide_at : ℕ) → List ℕ → ℕ → Result (RawIns × ℕ) FileFault
widened_at max_locals wide_at bytes at = do
  op ← number_at w8 bytes at
  end ← wide_end max_locals wide_at at op.0 (form_of op.0) bytes op.1
  args ← bytes_at (end - op.1) bytes op.1
  Ok (record { op = op.0; wide = true; padding = []; args = args.0 }, args.1)

-- an instruction of a code that begins at `start`
unfoldable pub ins_at : List Entry → (max_locals start : ℕ) → List ℕ → ℕ → Result (RawIns × ℕ) FileFault
ins_at entries max_locals start bytes at = do
  op ← number_at w8 bytes at
  if op.0 == 196 then widened_at max_locals at bytes op.1
      else plain_at entries max_locals start at op.0 (form_of op.0) bytes op.1

-- what is read one after the other, up to the end of the bytes, and at most so many
unfoldable pub all_at : {A : Type 0} → (ℕ → Result (A × ℕ) FileFault) → List ℕ → ℕ → List A → ℕ → Result (List A) FileFault
all_at read bytes zero before at = Ok before
all_at read bytes (suc left) before at = if nat_le (length bytes) at then Ok before else do
  x ← read at
  all_at read bytes left (before ++ x.0 ∷ []) x.1

-- the instructions of the code of so many bytes at an offset; each takes a byte at least
abbrev pub decoded : List Entry → (max_locals len : ℕ) → List ℕ → ℕ → Result (List RawIns) FileFault
decoded entries max_locals len bytes at = all_at (ins_at entries max_locals at (take (at + len) bytes)) (take (at + len) bytes) len [] at
