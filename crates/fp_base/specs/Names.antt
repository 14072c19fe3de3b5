-- The table of names, as the list of its texts. A text's number is its position.
use Rattle.std.specs.Prelude.{◌≡◌, ℕ, ◌≤◌, Bool, List, [], ◌∷◌, ◌++◌, Some, if◌then◌else◌, Vec, fold, map, length, position, slice_get, unwrap_or}
use Rattle.std.specs.List.{list_any}
use Rattle.std.specs.Str.{bytes_eq}
use Rattle.indexmap.specs.IndexSet.{IndexSet}

-- whether the text has a number
abbrev pub has_name : List (List ℕ) → List ℕ → Bool
has_name names text = list_any (bytes_eq text) names

-- the number of the text, or 0 where it has none
unfoldable pub number_of : List (List ℕ) → List ℕ → ℕ
number_of names text = unwrap_or (position (bytes_eq text) names) 0

-- the table after a text is interned: a new text stands at its end
unfoldable pub with_name : List (List ℕ) → List ℕ → List (List ℕ)
with_name names text = if has_name names text then names else names ++ text ∷ []

-- the table after the texts are interned in their order
abbrev pub with_names : List (List ℕ) → List (List ℕ) → List (List ℕ)
with_names names texts = fold with_name names texts

-- equal texts stand at equal numbers
pub record AreDistinct (names : List (List ℕ)) : Type 0 where
  pub same_number : (i j : ℕ) (text : List ℕ) → slice_get names i ≡ Some text → slice_get names j ≡ Some text → i ≡ j

-- what holds of every table
pub record IsNameTable (names : List (List ℕ)) : Type 0 where
  pub distinct : AreDistinct names
  pub within_limit : length names ≤ 16777216

-- the texts of a set of names, in its order
abbrev pub texts_of : {A S : Type 0} → IndexSet (Vec ℕ A) S → List (List ℕ)
texts_of names = map (λ name. name.items) names.keys
