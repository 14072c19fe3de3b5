-- The lattice of words of 64 bits, in which a word stands below those that have all its bits.
use Rattle.std.specs.Prelude.{ℕ, ◌^◌, nat_lt, bit_or}
use Rattle.std.specs.Int.{bit_at}
use Rattle.fp_eqs.specs.Bounds.{sum_below}
use Rattle.fp_facts.specs.Lattices.{Lattice}

-- how many bits of a word are set
unfoldable pub set_bits : ℕ → ℕ
set_bits x = sum_below (bit_at x) 64

abbrev pub words64 : Lattice ℕ
words64 = record {
  join = bit_or;
  height = set_bits;
  most = 64;
  fits = λ x. nat_lt x (2 ^ 64);
}
