-- A number in a word.
use Rattle.std.specs.Prelude.{ℕ, ◌==◌, ◌&&◌, nat_le, Bool, false, not, List, [], ◌∷◌, Option, Some, None, if◌then◌else◌}
use Rattle.std.specs.Str.{all_ascii_digits}
use Rattle.std.specs.Str.Parse.{digits_value}

-- decimal digits without a leading zero, except for `0` itself
abbrev pub is_numeral : List ℕ → Bool
is_numeral [] = false
is_numeral (digit ∷ []) = all_ascii_digits (digit ∷ [])
is_numeral (digit ∷ next ∷ rest) = not (digit == 48) && all_ascii_digits (digit ∷ next ∷ rest)

-- the number that a word writes, where it lies between two others
abbrev pub number_between : ℕ → ℕ → List ℕ → Option ℕ
number_between least most word =
    if is_numeral word && (nat_le least (digits_value 10 word) && nat_le (digits_value 10 word) most)
    then Some (digits_value 10 word) else None

-- the number of workers: 1 to 64
abbrev pub workers_of : List ℕ → Option ℕ
workers_of word = number_between 1 64 word
