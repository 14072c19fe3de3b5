-- The fields and methods of a class file at an offset (JVMS SE 21 sections 4.5 and 4.6), behind those before.
use Rattle.std.specs.Prelude.{ℕ, zero, suc, ◌+◌, ◌==◌, nat_le, Bool, false, ◌&&◌, not, List, [], ◌∷◌, ◌++◌, length, codes, unwrap_or, Option, Some, None, Result, Ok, if◌then◌else◌}
use Rattle.std.specs.List.{list_any, filter}
use Rattle.std.specs.Str.{bytes_eq}
use Rattle.std.specs.Int.{w16, w32}
use Rattle.fp_model.specs.declared.fault.FileFault.{FileFault}
use Rattle.fp_model.specs.declared.fault.FileFault.TheVariants as fault
use Rattle.fp_model.specs.declared.raw.pool.Entry.{Entry}
use Rattle.fp_model.specs.declared.raw.RawMember.{RawMember}
use Rattle.fp_model.specs.Descriptor.{is_field_descriptor, is_method_descriptor, parameter_words}
use Rattle.fp_model.specs.Flags.{is_static, lacks_code}
use Rattle.fp_model.specs.Entries.{text_at}
use Rattle.fp_model.specs.Reading.{behind, counted_at, demanded, number_at, ◌>>=◌}
use Rattle.fp_model.specs.References.{tagged, text_checked}
use Rattle.fp_attr.specs.Attributes.{attribute_at, is_called}
use Rattle.fp_attr.specs.declared.owner.Owner.TheVariants as owner

-- so many of one kind, each of which may depend on those before it
unfoldable pub many_after : {A : Type 0} → (List A → ℕ → Result (A × ℕ) FileFault) → ℕ → List A → ℕ → Result (List A × ℕ) FileFault
many_after read zero before at = Ok (before, at)
many_after read (suc n) before at = do
  x ← read before at
  many_after read n (before ++ x.0 ∷ []) x.1

-- how many, and each of them
unfoldable pub counted_after : {A : Type 0} → (List A → ℕ → Result (A × ℕ) FileFault) → List ℕ → ℕ → Result (List A × ℕ) FileFault
counted_after read bytes at = do
  count ← number_at w16 bytes at
  many_after read count.0 [] count.1

-- two texts that are there and equal
abbrev pub are_same : Option (List ℕ) → Option (List ℕ) → Bool
are_same (Some a) (Some b) = bytes_eq a b
are_same _ _ = false

-- a name and a descriptor are those of a member, by their texts
abbrev pub is_repeat : List Entry → (name descr : ℕ) → RawMember → Bool
is_repeat entries name descr other =
    are_same (text_at entries name) (text_at entries other.name) && are_same (text_at entries descr) (text_at entries other.descr)

-- no member before has the name and the descriptor
abbrev pub is_new : List Entry → (before : List RawMember) → (name descr : ℕ) → Bool
is_new entries before name descr = not (list_any (is_repeat entries name descr) before)

-- a field
unfoldable pub field_at : List Entry → List ℕ → (before : List RawMember) → ℕ → Result (RawMember × ℕ) FileFault
field_at entries bytes before at = do
  flags ← number_at w16 bytes at
  name ← number_at w16 bytes flags.1
  descr ← number_at w16 bytes name.1
  is_first ← demanded (is_new entries before name.0 descr.0) (fault.Repeat at)
  has_name ← tagged entries 1 flags.1 name.0
  has_type ← text_checked entries is_field_descriptor name.1 descr.0
  attributes ← counted_at (attribute_at entries owner.Field bytes) bytes descr.1
  Ok (record { flags = flags.0; name = name.0; descr = descr.0; attributes = attributes.0 }, attributes.1)

-- the words of a method's arguments, the receiver of an instance method counted (section 4.3.3)
abbrev pub argument_words : (flags : ℕ) → Option (List ℕ) → ℕ
argument_words flags None = 0
argument_words flags (Some descr) = unwrap_or (parameter_words descr) 0 + (if is_static flags then 0 else 1)

-- a method descriptor whose arguments take at most 255 words
abbrev pub is_type_of : (flags : ℕ) → List ℕ → Bool
is_type_of flags descr = is_method_descriptor descr && nat_le (argument_words flags (Some descr)) 255

-- the words of a method's arguments, by its descriptor, whose index stands at an offset
unfoldable pub words_at : List Entry → (flags at descr : ℕ) → Result ℕ FileFault
words_at entries flags at descr = do
  has_type ← text_checked entries (is_type_of flags) at descr
  Ok (argument_words flags (text_at entries descr))

-- the name of an attribute, which is passed over
unfoldable pub name_at : List Entry → List ℕ → ℕ → Result (ℕ × ℕ) FileFault
name_at entries bytes at = do
  name ← number_at w16 bytes at
  len ← number_at w32 bytes name.1
  end ← behind len.0 bytes len.1
  is_text ← tagged entries 1 at name.0
  Ok (name.0, end)

-- how many of the attributes are a `Code`
abbrev pub code_count : List Entry → List ℕ → ℕ
code_count entries names = length (filter (λ name. is_called (text_at entries name) (codes "Code")) names)

-- how many a method has by its flags
abbrev pub wanted_codes : ℕ → ℕ
wanted_codes flags = if lacks_code flags then 0 else 1

-- A method. The names of all its attributes are looked at first, since a method has one `Code`, and an abstract or native
-- one none; what the attributes hold is looked at then.
unfoldable pub method_at : List Entry → List ℕ → (before : List RawMember) → ℕ → Result (RawMember × ℕ) FileFault
method_at entries bytes before at = do
  flags ← number_at w16 bytes at
  name ← number_at w16 bytes flags.1
  descr ← number_at w16 bytes name.1
  is_first ← demanded (is_new entries before name.0 descr.0) (fault.Repeat at)
  has_name ← tagged entries 1 flags.1 name.0
  words ← words_at entries flags.0 name.1 descr.0
  names ← counted_at (name_at entries bytes) bytes descr.1
  has_code ← demanded (code_count entries names.0 == wanted_codes flags.0) (fault.CodeCount (length before))
  attributes ← counted_at (attribute_at entries (owner.Method words) bytes) bytes descr.1
  Ok (record { flags = flags.0; name = name.0; descr = descr.0; attributes = attributes.0 }, attributes.1)
