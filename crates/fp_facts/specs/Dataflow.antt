-- Dataflow problems, and their least labelling.
use Rattle.std.specs.Prelude.{◌≡◌, ◌<◌, ◌≤◌, ◌==◌, ℕ, Bool, IsTrue, List, [], ◌∷◌, length, slice_index_or, All, if◌then◌else◌}
use Rattle.fp_facts.specs.Lattices.{Lattice, IsLattice, IsBelow, IsAllBelow, least_of}

-- the node that it starts at, the node that it leads to, and whether it leads to an exception handler
abbrev pub Edge : Type 0
Edge = ℕ × ℕ × Bool

-- what each edge carries from the label of its start to its end, and the labels at first
pub record Problem (L : Type 0) : Type 0 where
  pub lattice : Lattice L
  pub nodes : ℕ
  pub edges : List Edge
  pub carry : Edge → L → L
  pub bottom : L
  pub first : ℕ → L

-- the label of a node, joined with what the edges to it carry there
abbrev pub arrived : {L : Type 0} → Problem L → List Edge → (ℕ → L) → ℕ → L
arrived d [] a p = a p
arrived d (e ∷ es) a p = if e.1 == p then d.lattice.join (arrived d es a p) (d.carry e (a e.0)) else arrived d es a p

-- every edge once
abbrev pub flow_round : {L : Type 0} → Problem L → (ℕ → L) → ℕ → L
flow_round d a p = arrived d d.edges a p

-- the labelling by rounds
unfoldable pub solution : {L : Type 0} → Problem L → ℕ → L
solution d = least_of d.lattice d.nodes (flow_round d) d.first

-- what the edge carries is below the label of its end
abbrev pub IsSettled : {L : Type 0} → Problem L → (ℕ → L) → Edge → Type 0
IsSettled d a e = IsBelow d.lattice (d.carry e (a e.0)) (a e.1)

-- the labels of the nodes in their order, and the bottom from there on
abbrev pub labels : {L : Type 0} → Problem L → List L → ℕ → L
labels d xs p = slice_index_or xs p d.bottom

-- carrying keeps the order of labels and that they fit, and edges and first labels keep to the nodes
pub record IsLawful {L : Type 0} (d : Problem L) : Type 0 where
  pub lattice : IsLattice d.lattice
  pub fits : (e : Edge) (x : L) → IsTrue (d.lattice.fits x) → IsTrue (d.lattice.fits (d.carry e x))
  pub monotone : (e : Edge) (x y : L) → IsBelow d.lattice x y → IsBelow d.lattice (d.carry e x) (d.carry e y)
  pub edges_within : All (λ e. (e.0 < d.nodes) × (e.1 < d.nodes)) d.edges
  pub first_fits : (p : ℕ) → IsTrue (d.lattice.fits (d.first p))
  pub first_within : (p : ℕ) → d.nodes ≤ p → d.first p ≡ d.bottom

-- above the first labels and settled at every edge, and below every such labelling
pub record IsLeastFlow {L : Type 0} (d : Problem L) (a : ℕ → L) : Type 0 where
  pub holds_first : IsAllBelow d.lattice d.first a
  pub settled : All (IsSettled d a) d.edges
  pub least : (b : ℕ → L) → IsAllBelow d.lattice d.first b → All (IsSettled d b) d.edges → IsAllBelow d.lattice a b

-- edges lead from node 0 to the node
pub data Reaches (es : List Edge) : ℕ → Type 0 where
  start : Reaches es 0
  along : (i : ℕ) (d : Edge) → i < length es → Reaches es (slice_index_or es i d).0 → Reaches es (slice_index_or es i d).1
