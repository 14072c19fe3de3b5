-- What a table of the members of classes says.
use Rattle.std.specs.Prelude.{◌≡◌, ℕ, ◌==◌, Bool, ◌&&◌, List, Option, None, if◌then◌else◌}
use Rattle.std.specs.Map.{lookup}
use Rattle.fp_model.specs.declared.class.Class.{Class}
use Rattle.fp_facts.specs.Resolution.{declared_field, declared_method}
use Rattle.fp_model.specs.ClassSet.{SetView}
use Rattle.fp_hier.specs.declared.declared.Declared.{Declared}
use Rattle.fp_hier.specs.declared.declared.Member.{Member}

-- the keys are the same
abbrev pub is_key : Member → Member → Bool
is_key a b = (a.class == b.class) && ((a.name == b.name) && (a.descr == b.descr))

-- what a class gives for a key, which is nothing for the key of another
abbrev pub method_of_class : List Class → (class : ℕ) → Member → Option ℕ
method_of_class classes class key = if key.class == class then declared_method classes key.name key.descr class else None

abbrev pub field_of_class : List Class → (class : ℕ) → Member → Option ℕ
field_of_class classes class key = if key.class == class then declared_field classes key.name key.descr class else None

-- the table has the first member of each key
pub record TellsMethods (classes : List Class) (entries : List (Member × ℕ)) : Type 0 where
  pub first : (key : Member) → lookup (is_key key) entries ≡ declared_method classes key.name key.descr key.class

pub record TellsFields (classes : List Class) (entries : List (Member × ℕ)) : Type 0 where
  pub first : (key : Member) → lookup (is_key key) entries ≡ declared_field classes key.name key.descr key.class

-- the tables are of this set
pub record IsDeclaredOf (set : SetView) (d : Declared) : Type 0 where
  pub methods_told : TellsMethods set.classes d.methods.entries
  pub fields_told : TellsFields set.classes d.fields.entries
