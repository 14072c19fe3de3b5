-- References to classes and members (JVMS SE 21 sections 4.4.1 and 4.4.2), by the indexes of their texts.
use Rattle.std.specs.Prelude.{◌≡◌, ℕ, true, List, [], ◌∷◌, slice_get, Some, is_some, unwrap_or}
use Rattle.fp_model.specs.declared.raw.pool.Entry.{Entry}
use Rattle.fp_model.specs.Entries.{text_at, class_name_at}
use Rattle.fp_model.specs.NamedInstructions.{MemberTexts}
use Rattle.fp_ops.specs.CallSites.{HandleTexts, SiteTexts}

-- the texts at these indexes
abbrev pub texts_at : List Entry → (class name descr : ℕ) → MemberTexts
texts_at entries class name descr = record {
  class = unwrap_or (text_at entries class) [];
  name = unwrap_or (text_at entries name) [];
  descr = unwrap_or (text_at entries descr) [];
}

-- they are there
pub record AreTexts (entries : List Entry) (class name descr : ℕ) : Type 0 where
  pub class_there : is_some (text_at entries class) ≡ true
  pub name_there : is_some (text_at entries name) ≡ true
  pub descr_there : is_some (text_at entries descr) ≡ true

-- the texts of a member, in order
abbrev pub member_names : MemberTexts → List (List ℕ)
member_names texts = texts.class ∷ (texts.name ∷ (texts.descr ∷ []))

-- a method handle (section 4.4.8) whose member has its texts at these indexes
abbrev pub handle_of : List Entry → (kind class name descr : ℕ) → HandleTexts
handle_of entries kind class name descr = record { kind = kind; member = texts_at entries class name descr }

-- a call site (section 4.4.10) with its texts at these indexes
abbrev pub site_of : List Entry → (name descr : ℕ) → HandleTexts → List ℕ → SiteTexts
site_of entries name descr method args = record {
  name = unwrap_or (text_at entries name) [];
  descr = unwrap_or (text_at entries descr) [];
  method = method;
  args = args;
}

-- the number is that of the name of the class at an index
pub record IsClassName (names : List (List ℕ)) (entries : List Entry) (n index : ℕ) : Type 0 where
  pub text : List ℕ
  pub number : slice_get names n ≡ Some text
  pub name : class_name_at entries index ≡ Some text
