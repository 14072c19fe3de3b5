-- What is taken of a class file into a table of names.
use Rattle.std.specs.Prelude.{◌≡◌, Bool, true, ◌&&◌, List, [], ℕ, slice_get, Some, is_some, IfSome, if◌then◌else◌}
use Rattle.fp_model.specs.declared.raw.attribute.BootRow.{BootRow}
use Rattle.fp_model.specs.declared.class.Method.{Method}
use Rattle.fp_model.specs.declared.raw.pool.Entry.{Entry}
use Rattle.fp_model.specs.declared.raw.RawMember.{RawMember}
use Rattle.fp_model.specs.declared.raw.Raw.{Raw}
use Rattle.fp_class.specs.Classes.{raw_names, IsCodeAmong}
use Rattle.fp_class.specs.MethodCode.{is_sound_code}
use Rattle.fp_class.specs.Methods.{code_of}
use Rattle.fp_model.specs.Descriptor.{is_field_descriptor, is_method_descriptor, IsDescrOf}
use Rattle.fp_model.specs.Entries.{passes, text_at}
use Rattle.fp_class.specs.ClassFile.{is_module}

-- a field whose name is a text, and whose descriptor is a field's (section 4.5)
abbrev pub is_sound_field : List Entry → RawMember → Bool
is_sound_field entries field = is_some (text_at entries field.name) && passes is_field_descriptor (text_at entries field.descr)

-- a method whose name is a text, and whose descriptor is a method's (section 4.6)
abbrev pub is_sound_method : List Entry → RawMember → Bool
is_sound_method entries method = is_some (text_at entries method.name) && passes is_method_descriptor (text_at entries method.descr)

-- the code of a method, where it has one, asks for what is there
abbrev pub HasSoundCode : List Entry → List BootRow → RawMember → Type 0
HasSoundCode entries boots method = IfSome (code_of method.attributes) (λ code. is_sound_code entries boots code ≡ true)

-- the method's numbers are those of a member's texts, its kinds are what the descriptor says, and its code is the member's
pub record IsNamedMethod (names : List (List ℕ)) (entries : List Entry) (boots : List BootRow) (m : Method) (member : RawMember) : Type 0 where
  pub flags : m.flags ≡ member.flags
  pub name : List ℕ
  pub name_number : slice_get names m.name ≡ Some name
  pub name_text : text_at entries member.name ≡ Some name
  pub descr : List ℕ
  pub descr_number : slice_get names m.descr ≡ Some descr
  pub descr_text : text_at entries member.descr ≡ Some descr
  pub kinds : IsDescrOf names descr m.kinds
  pub code : IsCodeAmong names entries boots m.code (code_of member.attributes)

-- the texts of a class, in order; none of a module
abbrev pub taken_names : Raw → List (List ℕ)
taken_names raw = if is_module raw.flags then [] else raw_names raw
