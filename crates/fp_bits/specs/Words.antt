-- Words of bits: their order is inclusion, and their join is bitwise or.
use Rattle.std.specs.Prelude.{◌≡◌, ◌<◌, ◌^◌, ℕ, Bool, true, false, bit_or, if◌then◌else◌, refl}
use Rattle.std.specs.Int.Bits.{or_self, or_zero_l, or_zero_r}
use Rattle.std.proofs.Common.{◌∙◌, sym, ap, arith}
use Rattle.std.proofs.lemmas.Nat.{or_comm, or_lt}
use Rattle.std.proofs.lemmas.Nat.Bits.{bit_at_or, same_from_bits}

-- each bit of x is a bit of y
abbrev pub IsWithin : ℕ → ℕ → Type 0
IsWithin x y = bit_or x y ≡ y

pub or_assoc : (x y z : ℕ) → bit_or (bit_or x y) z ≡ bit_or x (bit_or y z)
or_assoc x y z = same_from_bits _ _ (λ i. simp bit_at_or (omega arith))

pub within-refl : (x : ℕ) → IsWithin x x
within-refl x = or_self x

pub within-trans : (x y z : ℕ) → IsWithin x y → IsWithin y z → IsWithin x z
within-trans x y z h k = ap (λ v. bit_or x v) (sym k) ∙ sym (or_assoc x y z) ∙ ap (λ v. bit_or v z) h ∙ k

pub within-antisym : (x y : ℕ) → IsWithin x y → IsWithin y x → x ≡ y
within-antisym x y h k = sym k ∙ or_comm y x ∙ h

pub zero-within : (x : ℕ) → IsWithin 0 x
zero-within x = or_zero_l x

pub within-zero : (x : ℕ) → IsWithin x 0 → x ≡ 0
within-zero x h = sym (or_zero_r x) ∙ h

-- the join is above both words
pub within-or_left : (x y : ℕ) → IsWithin x (bit_or x y)
within-or_left x y = sym (or_assoc x x y) ∙ ap (λ v. bit_or v y) (or_self x)

pub within-or_right : (x y : ℕ) → IsWithin y (bit_or x y)
within-or_right x y = ap (λ v. bit_or y v) (or_comm x y) ∙ within-or_left y x ∙ or_comm y x

-- and below each word that is above both
pub or-within : (x y z : ℕ) → IsWithin x z → IsWithin y z → IsWithin (bit_or x y) z
or-within x y z h k = or_assoc x y z ∙ ap (λ v. bit_or x v) k ∙ h

pub or-grows : (x y v w : ℕ) → IsWithin x v → IsWithin y w → IsWithin (bit_or x y) (bit_or v w)
or-grows x y v w h k =
    or-within x y (bit_or v w) (within-trans x v (bit_or v w) h (within-or_left v w))
    (within-trans y w (bit_or v w) k (within-or_right v w))

pub or-fits : (x y : ℕ) → x < 2 ^ 64 → y < 2 ^ 64 → bit_or x y < 2 ^ 64
or-fits x y h k = or_lt 64 x y h k

pub within-if : (b : Bool) (x y : ℕ) → IsWithin x y → IsWithin (if b then x else 0) (if b then y else 0)
within-if true x y h = h
within-if false x y h = refl

-- bitwise or is the least word above both, and so associative, commutative, idempotent and monotone
pub record IsJoin (join : ℕ → ℕ → ℕ) : Type 0 where
  pub above_left : (x y : ℕ) → IsWithin x (join x y)
  pub above_right : (x y : ℕ) → IsWithin y (join x y)
  pub least : (x y z : ℕ) → IsWithin x z → IsWithin y z → IsWithin (join x y) z
  pub assoc : (x y z : ℕ) → join (join x y) z ≡ join x (join y z)
  pub comm : (x y : ℕ) → join x y ≡ join y x
  pub idem : (x : ℕ) → join x x ≡ x
  pub grows : (x y v w : ℕ) → IsWithin x v → IsWithin y w → IsWithin (join x y) (join v w)
  pub fits : (x y : ℕ) → x < 2 ^ 64 → y < 2 ^ 64 → join x y < 2 ^ 64

-- the order of words
pub record IsOrder : Type 0 where
  pub reflexive : (x : ℕ) → IsWithin x x
  pub transitive : (x y z : ℕ) → IsWithin x y → IsWithin y z → IsWithin x z
  pub antisymmetric : (x y : ℕ) → IsWithin x y → IsWithin y x → x ≡ y
  pub least : (x : ℕ) → IsWithin 0 x

pub join-laws : IsJoin bit_or
join-laws = record {
  above_left = within-or_left;
  above_right = within-or_right;
  least = or-within;
  assoc = or_assoc;
  comm = or_comm;
  idem = or_self;
  grows = or-grows;
  fits = or-fits;
}

pub order-laws : IsOrder
order-laws = record {
  reflexive = within-refl;
  transitive = within-trans;
  antisymmetric = within-antisym;
  least = zero-within;
}
