-- What stands while a worklist is worked off.
use Rattle.std.specs.Prelude.{◌≡◌, ◌<◌, ◌≤◌, ◌+◌, ◌-◌, ◌*◌, ◌⊎◌, ℕ, IsTrue, List, length, slice_index, slice_index_or, slice_set}
use Rattle.std.specs.List.{sum_by}
use Rattle.fp_facts.specs.Lattices.{IsAllBelow}
use Rattle.fp_facts.specs.Dataflow.{Edge, Problem, solution, IsSettled, labels}
use Rattle.fp_flow.specs.Waiting.{is_listed}

-- how many edges start below each node: those that start at node n are from place starts[n] on, up to starts[n + 1]
pub record IsIndexed (edges : List Edge) (nodes : ℕ) (starts : List ℕ) : Type 0 where
  pub long : length starts ≡ nodes + 1
  pub within : (n : ℕ) → n ≤ nodes → slice_index starts n ≤ length edges
  pub before : (n i : ℕ) (e : Edge) → n ≤ nodes → i < slice_index starts n → (slice_index_or edges i e).0 < n
  pub after : (n i : ℕ) (e : Edge) → n ≤ nodes → slice_index starts n ≤ i → i < length edges → n ≤ (slice_index_or edges i e).0

-- the labels are between the first ones and the solution, and each edge is settled, or starts at a node of the list, or starts at
-- the node that is being visited and stands at that place or behind it
pub record IsWorking {L : Type 0} (d : Problem L) (xs : List L) (nodes : List ℕ) (node at : ℕ) : Type 0 where
  pub long : length xs ≡ d.nodes
  pub fits : (p : ℕ) → IsTrue (d.lattice.fits (labels d xs p))
  pub first : IsAllBelow d.lattice d.first (labels d xs)
  pub within : IsAllBelow d.lattice (labels d xs) (solution d)
  pub settled : (i : ℕ) (e : Edge) → i < length d.edges → ((slice_index_or d.edges i e).0 ≡ node → i < at) → IsTrue (is_listed nodes (slice_index_or d.edges i e).0) ⊎ IsSettled d (labels d xs) (slice_index_or d.edges i e)

-- how many visits are left at most: a label that changes can list one node, and rises
unfoldable pub work_left : {L : Type 0} → Problem L → List L → List ℕ → ℕ
work_left d xs nodes = 2 * (d.lattice.most * d.nodes - sum_by d.lattice.height xs) + length nodes

-- the edge's end has what the edge carries there, and is on the list if that changed its label
pub record IsFollowed {L : Type 0} (d : Problem L) (edge : Edge) (xs ys : List L) (nodes more : List ℕ) : Type 0 where
  pub labels : ys ≡ slice_set xs edge.1 (d.lattice.join (labels d xs edge.1) (d.carry edge (labels d xs edge.0)))
  pub kept : (n : ℕ) → IsTrue (is_listed nodes n) → IsTrue (is_listed more n)
  pub listed : (ys ≡ xs) ⊎ IsTrue (is_listed more edge.1)
  pub less : work_left d ys more ≤ work_left d xs nodes
