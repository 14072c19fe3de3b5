-- The parts of shown items, and how long texts are.
use Rattle.std.specs.Prelude.{◌≡◌, ℕ, ◌≤◌, ◌==◌, true, List, [], ◌∷◌, length, map, if◌then◌else◌}
use Rattle.fp_base.specs.Names.{has_name}

-- what stands before the first `=`, or all of the text
abbrev pub part_before : List ℕ → List ℕ
part_before [] = []
part_before (byte ∷ rest) = if byte == 61 then [] else byte ∷ part_before rest

abbrev pub first_parts : List (List ℕ) → List (List ℕ)
first_parts items = map part_before items

-- none of the texts of a table is longer
abbrev pub AreWithin : ℕ → List (List ℕ) → Type 0
AreWithin most names = (text : List ℕ) → has_name names text ≡ true → length text ≤ most
