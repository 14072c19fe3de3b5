-- Texts of a class file, taken into a table of names.
use Rattle.std.specs.Prelude.{◌≡◌, ℕ, List, slice_get, Option, Some, None}
use Rattle.fp_model.specs.declared.raw.pool.Entry.{Entry}
use Rattle.fp_model.specs.declared.raw.RawMember.{RawMember}
use Rattle.fp_model.specs.declared.class.Field.{Field}
use Rattle.fp_model.specs.Entries.{text_at, class_name_at}
use Rattle.fp_model.specs.Descriptor.{IsKindOf}
pub use Rattle.fp_ops.specs.References.{IsClassName}

-- the number is that of the name of the class at an index, or there is no number where there is no class
abbrev pub IsParentName : List (List ℕ) → List Entry → Option ℕ → ℕ → Type 0
IsParentName names entries None index = class_name_at entries index ≡ None
IsParentName names entries (Some n) index = IsClassName names entries n index

-- the field's numbers are those of a member's texts, and its kind is what the descriptor says
pub record IsNamedField (names : List (List ℕ)) (entries : List Entry) (f : Field) (member : RawMember) : Type 0 where
  pub flags : f.flags ≡ member.flags
  pub name : List ℕ
  pub name_number : slice_get names f.name ≡ Some name
  pub name_text : text_at entries member.name ≡ Some name
  pub descr : List ℕ
  pub descr_number : slice_get names f.descr ≡ Some descr
  pub descr_text : text_at entries member.descr ≡ Some descr
  pub kind : IsKindOf names descr f.kind
