-- Rows of bits, and how words hold them.
use Rattle.std.specs.Prelude.{◌≡◌, ◌<◌, ◌≤◌, ◌+◌, ◌*◌, ◌/◌, ◌%◌, ◌==◌, ◌&&◌, ◌||◌, ℕ, Bool, List, length, slice_index}
use Rattle.std.specs.Int.{bit_at}
use Rattle.fp_hier.specs.declared.bit_rows.BitRows.{BitRows}

-- whether the bit of a row and a column is set in columns of words: 64 rows to a word, the lowest bit first
abbrev pub bit_in : (words : List ℕ) (columns row column : ℕ) → Bool
bit_in words columns row column = bit_at (slice_index words (row / 64 * columns + column)) (row % 64) == 1

-- the bit of a row and a column
abbrev pub bit_of : BitRows → (row column : ℕ) → Bool
bit_of t row column = bit_in t.words.items t.columns row column

-- there are the words of all columns, each with room for all rows
pub record HoldsRows (t : BitRows) : Type 0 where
  pub all_words : length t.words.items ≡ t.height * t.columns
  pub enough : t.rows ≤ 64 * t.height

-- the bits of a column are set in those rows besides, and no others
pub record Marks (class : ℕ) (in_row : ℕ → Bool) (old new : BitRows) : Type 0 where
  pub bits : (row column : ℕ) → row < old.rows → column < old.columns → bit_of new row column ≡ (bit_of old row column || ((column == class) && in_row row))
  pub rows : new.rows ≡ old.rows
  pub columns : new.columns ≡ old.columns
  pub holds : HoldsRows old → HoldsRows new
