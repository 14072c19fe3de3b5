-- The order of a lattice, whose join is the least upper bound.
use Rattle.std.proofs.Common.{◌≡◌, ℕ, sym, ap, ◌∙◌}
use Rattle.fp_facts.specs.Lattices.{Lattice, IsLattice, IsBelow, IsAllBelow}

module _ {L : Type 0} (l : Lattice L) (laws : IsLattice l) where
  pub below-refl : (x : L) → IsBelow l x x
  below-refl x = laws.idempotent x

  pub below-trans : (x y z : L) → IsBelow l x y → IsBelow l y z → IsBelow l x z
  below-trans x y z h k = ap (λ v. l.join x v) (sym k) ∙ sym (laws.associative x y z) ∙ ap (λ v. l.join v z) h ∙ k

  pub below-antisym : (x y : L) → IsBelow l x y → IsBelow l y x → x ≡ y
  below-antisym x y h k = sym k ∙ laws.commutative y x ∙ h

  pub below-join_left : (x y : L) → IsBelow l x (l.join x y)
  below-join_left x y = sym (laws.associative x x y) ∙ ap (λ v. l.join v y) (laws.idempotent x)

  pub below-join_right : (x y : L) → IsBelow l y (l.join x y)
  below-join_right x y = ap (λ v. l.join y v) (laws.commutative x y) ∙ below-join_left y x ∙ laws.commutative y x

  pub join-below : (x y z : L) → IsBelow l x z → IsBelow l y z → IsBelow l (l.join x y) z
  join-below x y z h k = laws.associative x y z ∙ ap (λ v. l.join x v) k ∙ h

  pub join-grows : (x y v w : L) → IsBelow l x v → IsBelow l y w → IsBelow l (l.join x y) (l.join v w)
  join-grows x y v w h k =
      join-below x y (l.join v w) (below-trans x v (l.join v w) h (below-join_left v w)) (below-trans y w (l.join v w) k (below-join_right v w))

  pub all_below-antisym : (a b : ℕ → L) → IsAllBelow l a b → IsAllBelow l b a → a ≡ b
  all_below-antisym a b h k = λ i p. below-antisym (a p) (b p) (h p) (k p) i
