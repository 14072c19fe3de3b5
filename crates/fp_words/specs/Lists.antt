-- A list in one word: items with commas between them.
use Rattle.std.specs.Prelude.{ℕ, ◌==◌, Bool, List, [], ◌∷◌, ◌++◌, length, fold, Option, Some, None, if◌then◌else◌}
use Rattle.std.specs.List.{list_any, slice_split}
use Rattle.std.specs.Str.{bytes_eq}

-- the parts of a word between its commas
abbrev pub items_between : List ℕ → List (List ℕ)
items_between word = slice_split (λ byte. byte == 44) word

abbrev pub is_empty : List ℕ → Bool
is_empty text = length text == 0

-- the items with one more at the end, where it is not there already
abbrev pub with_item : List (List ℕ) → List ℕ → List (List ℕ)
with_item items item = if list_any (bytes_eq item) items then items else items ++ item ∷ []

-- each item once, where it stands first
abbrev pub distinct_items : List (List ℕ) → List (List ℕ)
distinct_items items = fold with_item [] items

-- the items of a list in a word, each once: none is empty
abbrev pub list_items : List ℕ → Option (List (List ℕ))
list_items word = if list_any is_empty (items_between word) then None else Some (distinct_items (items_between word))
