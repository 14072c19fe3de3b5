-- The class that a raw class file stands for, in numbers of a table of names.
use Rattle.std.specs.Prelude.{◌≡◌, ℕ, List, [], ◌∷◌, ◌++◌, map, slice_get, Option, Some, None, option_and_then, option_map, unwrap_or}
use Rattle.std.specs.List.{flat_map, AllZip}
use Rattle.std.specs.Option.{option_to_list}
use Rattle.fp_model.specs.declared.raw.pool.Entry.{Entry}
use Rattle.fp_model.specs.declared.raw.attribute.BootRow.{BootRow}
use Rattle.fp_model.specs.declared.raw.attribute.RawCode.{RawCode}
use Rattle.fp_model.specs.declared.raw.RawMember.{RawMember}
use Rattle.fp_model.specs.declared.raw.Raw.{Raw}
use Rattle.fp_model.specs.declared.class.Class.{Class}
use Rattle.fp_model.specs.declared.class.Code.{Code}
use Rattle.fp_model.specs.declared.class.Field.{Field}
use Rattle.fp_model.specs.declared.class.Method.{Method}
use Rattle.fp_base.specs.Names.{number_of}
use Rattle.fp_model.specs.Descriptor.{descr_names, kind_names}
use Rattle.fp_model.specs.Kinds.{kind_in}
use Rattle.fp_model.specs.Entries.{text_at, class_name_at}
use Rattle.fp_model.specs.NamedInstructions.{texts_by}
use Rattle.fp_model.specs.ClassSet.{IsClassOver}
use Rattle.fp_class.specs.ClassFile.{boots_of}
use Rattle.fp_class.specs.CodeNumbers.{code_in, descr_in}
use Rattle.fp_class.specs.MethodCode.{code_texts, IsCodeOf}
use Rattle.fp_class.specs.Methods.{code_of}

-- the texts of a field, in order
abbrev pub field_names : List Entry → RawMember → List (List ℕ)
field_names entries field =
    let descr = unwrap_or (text_at entries field.descr) [] in
    unwrap_or (text_at entries field.name) [] ∷ (descr ∷ kind_names descr)

-- the texts of a method, in order, its code's the last
abbrev pub method_names : List Entry → List BootRow → RawMember → List (List ℕ)
method_names entries boots method =
    let descr = unwrap_or (text_at entries method.descr) [] in
    unwrap_or (text_at entries method.name) [] ∷ (descr ∷ (descr_names descr ++ texts_by (code_texts entries boots) (code_of method.attributes)))

-- the texts of a class, in order: its name, its superclass, its interfaces, and those of its fields and of its methods
abbrev pub raw_names : Raw → List (List ℕ)
raw_names raw =
    let entries = raw.pool.entries in
    option_to_list (class_name_at entries raw.this)
    ++ (option_to_list (class_name_at entries raw.parent)
    ++ (flat_map (λ index. option_to_list (class_name_at entries index)) raw.interfaces
    ++ (flat_map (field_names entries) raw.fields
    ++ flat_map (method_names entries (boots_of raw.attributes)) raw.methods)))

-- the field is that of the file
pub record IsFieldOf (names : List (List ℕ)) (entries : List Entry) (f : Field) (field : RawMember) : Type 0 where
  pub flags : f.flags ≡ field.flags
  pub name : slice_get names f.name ≡ text_at entries field.name
  pub descr : slice_get names f.descr ≡ text_at entries field.descr

-- the code is that of the file, and there is none where the file has none
abbrev pub IsCodeAmong : (names : List (List ℕ)) → List Entry → List BootRow → Option Code → Option RawCode → Type 0
IsCodeAmong names entries boots None None = Unit {0}
IsCodeAmong names entries boots (Some code) (Some raw) = IsCodeOf names entries boots code raw
IsCodeAmong names entries boots _ _ = ⊥

-- the method is that of the file
pub record IsMethodOf (names : List (List ℕ)) (entries : List Entry) (boots : List BootRow) (m : Method) (method : RawMember) : Type 0 where
  pub flags : m.flags ≡ method.flags
  pub name : slice_get names m.name ≡ text_at entries method.name
  pub descr : slice_get names m.descr ≡ text_at entries method.descr
  pub code : IsCodeAmong names entries boots m.code (code_of method.attributes)

-- the class is that of the file
pub record IsClassOf (names : List (List ℕ)) (c : Class) (raw : Raw) : Type 0 where
  pub over : IsClassOver names c
  pub flags : c.flags ≡ raw.flags
  pub name : slice_get names c.name ≡ class_name_at raw.pool.entries raw.this
  pub parent : option_and_then (slice_get names) c.parent ≡ class_name_at raw.pool.entries raw.parent
  pub interfaces : map (slice_get names) c.interfaces ≡ map (class_name_at raw.pool.entries) raw.interfaces
  pub fields : AllZip (IsFieldOf names raw.pool.entries) c.fields raw.fields
  pub methods : AllZip (IsMethodOf names raw.pool.entries (boots_of raw.attributes)) c.methods raw.methods

-- the number of a text, of one that isn't there too
abbrev pub number_in : List (List ℕ) → Option (List ℕ) → ℕ
number_in names text = number_of names (unwrap_or text [])

-- the field of the file, in numbers of the table
abbrev pub field_in : List (List ℕ) → List Entry → RawMember → Field
field_in names entries field = record {
  name = number_in names (text_at entries field.name);
  descr = number_in names (text_at entries field.descr);
  kind = kind_in names (unwrap_or (text_at entries field.descr) []);
  flags = field.flags;
}

-- the method of the file, in numbers of the table
abbrev pub method_in : List (List ℕ) → List Entry → List BootRow → RawMember → Method
method_in names entries boots method = record {
  name = number_in names (text_at entries method.name);
  descr = number_in names (text_at entries method.descr);
  kinds = descr_in names (unwrap_or (text_at entries method.descr) []);
  flags = method.flags;
  code = option_map (code_in names entries boots) (code_of method.attributes);
}

-- the class of the file, in numbers of the table
abbrev pub class_in : List (List ℕ) → Raw → Class
class_in names raw = record {
  name = number_in names (class_name_at raw.pool.entries raw.this);
  parent = option_map (number_of names) (class_name_at raw.pool.entries raw.parent);
  interfaces = map (λ index. number_in names (class_name_at raw.pool.entries index)) raw.interfaces;
  flags = raw.flags;
  fields = map (field_in names raw.pool.entries) raw.fields;
  methods = map (method_in names raw.pool.entries (boots_of raw.attributes)) raw.methods;
}
