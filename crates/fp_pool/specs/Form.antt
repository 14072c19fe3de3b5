-- The form of a constant pool: what its bytes can spell (JVMS SE 21 section 4.4).
use Rattle.std.specs.Prelude.{ℕ, nat_lt, Bool, true, false, ◌&&◌, not, List, [], ◌∷◌, length}
use Rattle.fp_model.specs.declared.raw.pool.Entry.{Entry}
use Rattle.fp_model.specs.declared.raw.pool.Entry.TheVariants as entry
use Rattle.fp_model.specs.declared.raw.pool.Pool.{Pool}
use Rattle.fp_model.specs.Pool.{is_wide}
use Rattle.fp_model.specs.Spelling.{is_u2}

-- numbers of four and of eight bytes
abbrev pub is_u4 : ℕ → Bool
is_u4 n = nat_lt n 0x1_0000_0000

abbrev pub is_u8 : ℕ → Bool
is_u8 n = nat_lt n 0x1_0000_0000_0000_0000

-- an entry whose numbers, or whose length, fit their bytes
abbrev pub fits : Entry → Bool
fits entry.Unused = false
fits (entry.Utf8 text) = is_u2 (length text)
fits (entry.Integer bits) = is_u4 bits
fits (entry.Float bits) = is_u4 bits
fits (entry.Long bits) = is_u8 bits
fits (entry.Double bits) = is_u8 bits
fits (entry.Class name) = is_u2 name
fits (entry.Text text) = is_u2 text
fits (entry.FieldRef class pair) = is_u2 class && is_u2 pair
fits (entry.MethodRef class pair) = is_u2 class && is_u2 pair
fits (entry.InterfaceRef class pair) = is_u2 class && is_u2 pair
fits (entry.Pair name descr) = is_u2 name && is_u2 descr
fits (entry.Handle kind index) = nat_lt kind 256 && is_u2 index
fits (entry.MethodType descr) = is_u2 descr
fits (entry.Dynamic boot pair) = is_u2 boot && is_u2 pair
fits (entry.InvokeDynamic boot pair) = is_u2 boot && is_u2 pair
fits (entry.Module name) = is_u2 name
fits (entry.Package name) = is_u2 name

-- an index that is empty, and the others: behind a Long or Double one is empty
abbrev pub is_slot : (empty : Bool) → Entry → Bool
is_slot true entry.Unused = true
is_slot true _ = false
is_slot false e = fits e

unfoldable pub are_slots : (empty : Bool) → List Entry → Bool
are_slots empty [] = not empty
are_slots empty (e ∷ entries) = is_slot empty e && are_slots (is_wide e) entries

-- a pool by its form; index 0 is empty
abbrev pub has_form : Pool → Bool
has_form pool = is_u2 (length pool.entries) && are_slots true pool.entries
