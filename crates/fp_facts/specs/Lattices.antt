-- Lattices of bounded height, and the least solution of a monotone step by rounds.
use Rattle.std.specs.Prelude.{◌≡◌, ◌≤◌, ◌+◌, ◌*◌, ℕ, Bool, IsTrue}
use Rattle.std.proofs.Common.{zero, suc}

-- a join, and a height that no label which fits exceeds
pub record Lattice (L : Type 0) : Type 0 where
  pub join : L → L → L
  pub height : L → ℕ
  pub most : ℕ
  pub fits : L → Bool

abbrev pub IsBelow : {L : Type 0} → Lattice L → L → L → Type 0
IsBelow l x y = l.join x y ≡ y

-- at every node
abbrev pub IsAllBelow : {L : Type 0} → Lattice L → (ℕ → L) → (ℕ → L) → Type 0
IsAllBelow l a b = (p : ℕ) → IsBelow l (a p) (b p)

-- the join is a least upper bound, and heights rise with the order, strictly where labels differ
pub record IsLattice {L : Type 0} (l : Lattice L) : Type 0 where
  pub associative : (x y z : L) → l.join (l.join x y) z ≡ l.join x (l.join y z)
  pub commutative : (x y : L) → l.join x y ≡ l.join y x
  pub idempotent : (x : L) → l.join x x ≡ x
  pub fits_join : (x y : L) → IsTrue (l.fits x) → IsTrue (l.fits y) → IsTrue (l.fits (l.join x y))
  pub height_most : (x : L) → IsTrue (l.fits x) → l.height x ≤ l.most
  pub height_grows : (x y : L) → IsTrue (l.fits x) → IsTrue (l.fits y) → IsBelow l x y → l.height x ≤ l.height y
  pub height_same : (x y : L) → IsTrue (l.fits x) → IsTrue (l.fits y) → IsBelow l x y → l.height y ≤ l.height x → x ≡ y

-- what stands after so many steps from the first labels
abbrev pub after_rounds : {L : Type 0} → ((ℕ → L) → ℕ → L) → (ℕ → L) → ℕ → ℕ → L
after_rounds step first zero p = first p
after_rounds step first (suc k) p = step (after_rounds step first k) p

-- what stands after one step for each height of each node and one more
unfoldable pub least_of : {L : Type 0} → Lattice L → (nodes : ℕ) → ((ℕ → L) → ℕ → L) → (ℕ → L) → ℕ → L
least_of l nodes step first p = after_rounds step first (l.most * nodes + 1) p

-- the step only raises labels, keeps their order, and changes those of the first nodes alone
pub record IsMonotoneStep {L : Type 0} (l : Lattice L) (nodes : ℕ) (step : (ℕ → L) → ℕ → L) (first : ℕ → L) : Type 0 where
  pub first_fits : (p : ℕ) → IsTrue (l.fits (first p))
  pub fits : (a : ℕ → L) → ((p : ℕ) → IsTrue (l.fits (a p))) → (p : ℕ) → IsTrue (l.fits (step a p))
  pub grows : (a : ℕ → L) → IsAllBelow l a (step a)
  pub monotone : (a b : ℕ → L) → IsAllBelow l a b → IsAllBelow l (step a) (step b)
  pub beyond : (a : ℕ → L) (p : ℕ) → nodes ≤ p → step a p ≡ a p

-- it is above the first labels, the step leaves it, and it is below every labelling above the first that no step exceeds
pub record IsLeast {L : Type 0} (l : Lattice L) (step : (ℕ → L) → ℕ → L) (first a : ℕ → L) : Type 0 where
  pub holds_first : IsAllBelow l first a
  pub closed : (p : ℕ) → step a p ≡ a p
  pub least : (b : ℕ → L) → IsAllBelow l first b → IsAllBelow l (step b) b → IsAllBelow l a b
