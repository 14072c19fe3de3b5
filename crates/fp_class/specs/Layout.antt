-- The layout of a class file (JVMS SE 21 section 4.1): its parts in order, attributes by their lengths alone.
use Rattle.std.specs.Prelude.{ℕ, zero, suc, ◌==◌, nat_le, Bool, ◌&&◌, List, length, Result, Ok}
use Rattle.std.specs.Int.{w16, w32}
use Rattle.fp_model.specs.declared.fault.FileFault.{FileFault}
use Rattle.fp_model.specs.declared.fault.FileFault.TheVariants as fault
use Rattle.fp_model.specs.Pool.{pool_at}
use Rattle.fp_model.specs.Reading.{counted_at, demanded, number_at, ◌>>=◌}
use Rattle.fp_attr.specs.Attributes.{attribute_skipped}
use Rattle.fp_class.specs.declared.layout.Layout.{Layout}

-- so many of one kind, passed over
unfoldable pub many_skipped : (ℕ → Result ℕ FileFault) → ℕ → ℕ → Result ℕ FileFault
many_skipped skip zero at = Ok at
many_skipped skip (suc n) at = do
  next ← skip at
  many_skipped skip n next

-- how many, and each of them passed over
unfoldable pub counted_skipped : (ℕ → Result ℕ FileFault) → List ℕ → ℕ → Result ℕ FileFault
counted_skipped skip bytes at = do
  count ← number_at w16 bytes at
  many_skipped skip count.0 count.1

-- a field or a method, passed over
unfoldable pub member_skipped : List ℕ → ℕ → Result ℕ FileFault
member_skipped bytes at = do
  flags ← number_at w16 bytes at
  name ← number_at w16 bytes flags.1
  descr ← number_at w16 bytes name.1
  counted_skipped (attribute_skipped bytes) bytes descr.1

-- the versions that are read: 50 to 65, with minor 0
abbrev pub is_version : (major minor : ℕ) → Bool
is_version major minor = nat_le 50 major && (nat_le major 65 && (minor == 0))

-- the parts of a file up to its fields, of which it is known that each part behind them lies whole in the file
unfoldable pub layout_of : List ℕ → Result Layout FileFault
layout_of bytes = do
  magic ← number_at w32 bytes 0
  is_class ← demanded (magic.0 == 0xCAFEBABE) fault.Magic
  minor ← number_at w16 bytes magic.1
  major ← number_at w16 bytes minor.1
  is_read ← demanded (is_version major.0 minor.0) (fault.Version major.0 minor.0)
  pool ← pool_at bytes major.1
  flags ← number_at w16 bytes pool.1
  this ← number_at w16 bytes flags.1
  parent ← number_at w16 bytes this.1
  interfaces ← counted_at (number_at w16 bytes) bytes parent.1
  methods ← counted_skipped (member_skipped bytes) bytes interfaces.1
  attributes ← counted_skipped (member_skipped bytes) bytes methods
  end ← counted_skipped (attribute_skipped bytes) bytes attributes
  is_whole ← demanded (end == length bytes) (fault.Trailing end)
  Ok (record { minor = minor.0; major = major.0; pool = pool.0; flags = flags.0; this = this.0; parent = parent.0; interfaces = interfaces.0; flags_at = pool.1; fields_at = interfaces.1 })
