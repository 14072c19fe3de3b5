-- Which bits of a row of words are set.
use Rattle.std.specs.Prelude.{ℕ, ◌+◌, ◌*◌, ◌-◌, ◌/◌, ◌%◌, ◌==◌, Bool, List, [], ◌∷◌, ◌++◌, if◌then◌else◌, length, slice_index}
use Rattle.std.specs.Int.{bit_at}
use Rattle.std.proofs.Common.{zero, suc}

-- whether the bit is set: 64 bits to a word, the lowest first
abbrev pub is_set : List ℕ → ℕ → Bool
is_set words bit = bit_at (slice_index words (bit / 64)) (bit % 64) == 1

-- the numbers below a bound that pass a test, ascending
abbrev pub passing_below : (ℕ → Bool) → ℕ → List ℕ
passing_below test zero = []
passing_below test (suc n) = if test n then passing_below test n ++ n ∷ [] else passing_below test n

-- the numbers of the bits that are set, counted from the bit `first`
abbrev pub set_bits_from : ℕ → List ℕ → List ℕ
set_bits_from first words = passing_below (λ i. is_set words (first + i)) (64 * length words - first)

-- the numbers of the bits that are set
abbrev pub set_bits : List ℕ → List ℕ
set_bits words = set_bits_from 0 words
