-- What is known of the texts of a constant pool, by their indexes, while they are taken into a table of names.
use Rattle.std.specs.Prelude.{◌≡◌, ℕ, true, List, drop, length, slice_get, Option, Some}
use Rattle.std.specs.List.{list_all}
use Rattle.std.specs.Option.{option_flatten}
use Rattle.fp_base.specs.Names.{has_name}
use Rattle.fp_model.specs.declared.kind.Kind.{Kind}
use Rattle.fp_model.specs.declared.raw.pool.Entry.{Entry}
use Rattle.fp_model.specs.Descriptor.{descr_names, kind_names, IsDescrOf, IsKindOf}
use Rattle.fp_model.specs.Entries.{text_at}
use Rattle.fp_ops.specs.declared.memo.Memo.{Memo}

-- what a list of what is known has at an index
abbrev pub known_at : {X : Type 0} → List (Option X) → ℕ → Option X
known_at known i = option_flatten (slice_get known i)

-- the list has a place for each index, and what it has is true there
pub record AreKnown {X : Type 0} (IsTrueAt : X → ℕ → Type 0) (count : ℕ) (known : List (Option X)) : Type 0 where
  pub size : length known ≡ count
  pub at : (i : ℕ) (x : X) → known_at known i ≡ Some x → IsTrueAt x i

-- the number is that of the text at an index
pub record IsTextNumber (names : List (List ℕ)) (entries : List Entry) (n index : ℕ) : Type 0 where
  pub text : List ℕ
  pub text_is : text_at entries index ≡ Some text
  pub number : slice_get names n ≡ Some text

-- the text at an index says this, and the table has the names in it
pub record IsSaidAt {X : Type 0} (Says : List ℕ → X → Type 0) (names_in : List ℕ → List (List ℕ)) (names : List (List ℕ)) (entries : List Entry) (x : X) (index : ℕ) : Type 0 where
  pub text : List ℕ
  pub text_is : text_at entries index ≡ Some text
  pub says : Says text x
  pub held : list_all (has_name names) (names_in text) ≡ true

-- what the name of an array class says of the elements, and the names in that
abbrev pub IsElementOf : List (List ℕ) → List ℕ → Kind → Type 0
IsElementOf names text k = IsKindOf names (drop 1 text) k

abbrev pub element_names : List ℕ → List (List ℕ)
element_names text = kind_names (drop 1 text)

-- what is known is true
pub record IsMemo (names : List (List ℕ)) (entries : List Entry) (memo : Memo) : Type 0 where
  pub numbers : AreKnown (IsTextNumber names entries) (length entries) memo.numbers.items
  pub kinds : AreKnown (IsSaidAt (IsKindOf names) kind_names names entries) (length entries) memo.kinds.items
  pub elements : AreKnown (IsSaidAt (IsElementOf names) element_names names entries) (length entries) memo.elements.items
  pub descrs : AreKnown (IsSaidAt (IsDescrOf names) descr_names names entries) (length entries) memo.descrs.items
