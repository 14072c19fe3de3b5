-- Texts in the order of their bytes.
use Rattle.std.specs.Prelude.{ℕ, Bool, List, [], ◌∷◌, if◌then◌else◌}
use Rattle.std.specs.Ordering.{nat_cmp, is_lt}
use Rattle.std.specs.Cmp.Lexicographic.{slice_cmp}

-- a text comes before another, by their bytes
abbrev pub is_before : List ℕ → List ℕ → Bool
is_before a b = is_lt (slice_cmp nat_cmp a b)

-- the text among others that are in order, before the first that doesn't come before it
abbrev pub put_in_order : List ℕ → List (List ℕ) → List (List ℕ)
put_in_order text [] = text ∷ []
put_in_order text (other ∷ others) = if is_before other text then other ∷ put_in_order text others else text ∷ (other ∷ others)

-- the texts in their order
unfoldable pub in_text_order : List (List ℕ) → List (List ℕ)
in_text_order [] = []
in_text_order (text ∷ texts) = put_in_order text (in_text_order texts)
