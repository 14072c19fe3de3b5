-- Truth values and words of 64 bits are lattices.
use Rattle.std.proofs.Common.{◌≡◌, ◌<◌, ◌≤◌, ◌^◌, ◌||◌, nat_lt, if◌then◌else◌, ℕ, Bool, true, false, IsTrue, bit_or, refl, arith}
use Rattle.std.specs.Int.Bits.{or_self}
use Rattle.std.proofs.lemmas.Bool.{lt-ltb, ltb-true}
use Rattle.std.proofs.lemmas.Nat.{or_comm, or_lt}
use Rattle.std.proofs.lemmas.Nat.Bits.{bit_at_or, same_from_bits}
use Rattle.std.proofs.Math.Bool.{or_assoc as bool_or-assoc, or_comm as bool_or-comm}
use Rattle.fp_eqs.proofs.Sums.{bits_in, bits_in-le, bits_in-most, bits_in-same}
use Rattle.fp_facts.specs.Bits.{set_bits, words64}
use Rattle.fp_facts.specs.Lattices.{IsLattice}
use Rattle.fp_facts.specs.Origins.{bools}

-- ---- truth values

or-idem : (x : Bool) → (x || x) ≡ x
or-idem true = refl
or-idem false = refl

height-within : (x : Bool) → (if x then 1 else 0) ≤ 1
height-within true = omega arith
height-within false = omega arith

height-grows : (x y : Bool) → (x || y) ≡ y → (if x then 1 else 0) ≤ (if y then 1 else 0)
height-grows true true below = omega arith
height-grows true false below = absurd cc
height-grows false true below = omega arith
height-grows false false below = omega arith

height-same : (x y : Bool) → (x || y) ≡ y → (if y then 1 else 0) ≤ (if x then 1 else 0) → x ≡ y
height-same true y below le = below
height-same false true below le = absurd (omega arith)
height-same false false below le = refl

pub bools-lattice : IsLattice bools
bools-lattice = record {
  associative = bool_or-assoc;
  commutative = bool_or-comm;
  idempotent = or-idem;
  fits_join = λ _ _ _ _. refl;
  height_most = λ x _. height-within x;
  height_grows = λ x y _ _ below. height-grows x y below;
  height_same = λ x y _ _ below le. height-same x y below le;
}

-- ---- words

words-assoc : (x y z : ℕ) → bit_or (bit_or x y) z ≡ bit_or x (bit_or y z)
words-assoc x y z = same_from_bits _ _ (λ i. simp bit_at_or (omega arith))

set_bits-are : (x : ℕ) → set_bits x ≡ bits_in x
unfolding set_bits bits_in
set_bits-are x = refl

below_limit : (x : ℕ) → IsTrue (nat_lt x (2 ^ 64)) → x < 2 ^ 64
below_limit x h = ltb-true x (2 ^ 64) h

pub words64-lattice : IsLattice words64
words64-lattice = record {
  associative = words-assoc;
  commutative = or_comm;
  idempotent = or_self;
  fits_join = λ x y h k. lt-ltb (bit_or x y) (2 ^ 64) (or_lt 64 x y (below_limit x h) (below_limit y k));
  height_most = λ x _. omega (arith, set_bits-are x, bits_in-most x);
  height_grows = λ x y _ _ below. omega (arith, set_bits-are x, set_bits-are y, bits_in-le x y below);
  height_same = λ x y h k below le. bits_in-same x y (below_limit x h) (below_limit y k) below (omega (arith, set_bits-are x, set_bits-are y));
}
