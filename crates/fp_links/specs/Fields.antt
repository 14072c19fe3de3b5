-- What the fields of links hold: a ring for each place, a list for each task, and a list of the edges that are free.
use Rattle.std.specs.Prelude.{◌≡◌, ℕ, ◌+◌, ◌-◌, ◌<◌, ◌^◌, ◌==◌, nat_lt, Bool, not, ◌&&◌, List, length, get_or, map, IsTrue, if◌then◌else◌}
use Rattle.fp_links.specs.declared.edge.Edge.{Edge}
use Rattle.fp_links.specs.declared.edge.Ends.{Ends}
use Rattle.fp_links.specs.Linked.{Linked, Pair}
use Rattle.fp_links.specs.Rings.{IsLinked, IsStack, has, distinct, walk, table}

-- the number that is none
abbrev pub none : ℕ
none = 4294967295

-- the number of a place in its ring
abbrev pub ring : ℕ → ℕ
ring place = none - place

abbrev pub no_edge : Edge
no_edge = record { next = 0; previous = 0; place = none; task = 0; behind = none }

abbrev pub no_ends : Ends
no_ends = record { next = 0; previous = 0 }

-- what is next to a number, an edge's or a place's, and what stands before it
abbrev pub next_at : List Edge → List Ends → ℕ → ℕ
next_at edges places x =
    if nat_lt x (length edges) then (get_or edges x no_edge).next else (if nat_lt none x then 0 else (get_or places (none - x) no_ends).next)

abbrev pub previous_at : List Edge → List Ends → ℕ → ℕ
previous_at edges places x =
    if nat_lt x (length edges) then (get_or edges x no_edge).previous else (if nat_lt none x then 0 else (get_or places (none - x) no_ends).previous)

abbrev pub place_at : List Edge → ℕ → ℕ
place_at edges x = (get_or edges x no_edge).place

abbrev pub task_at : List Edge → ℕ → ℕ
task_at edges x = (get_or edges x no_edge).task

abbrev pub behind_at : List Edge → ℕ → ℕ
behind_at edges x = (get_or edges x no_edge).behind

-- whether the edge leads to the place, and whether it leads to any
abbrev pub leads : ℕ → (ℕ → ℕ) → ℕ → ℕ → Bool
leads n place p e = nat_lt e n && (place e == p)

abbrev pub stands : ℕ → (ℕ → ℕ) → ℕ → Bool
stands n place e = nat_lt e n && not (place e == none)

-- n edges, m places and k tasks: rows are the rings of places, stacks the lists of tasks, frees the list of free edges
pub record IsShape (n m k : ℕ) (next previous place task behind first : ℕ → ℕ) (free spare : ℕ) (rows stacks : ℕ → List ℕ) (frees : List ℕ) : Type 0 where
  pub room : n + m < 2 ^ 32
  pub linked : (p : ℕ) → p < m → IsLinked next previous (ring p) (rows p) (ring p)
  pub on : (p : ℕ) → p < m → (e : ℕ) → has (rows p) e ≡ leads n place p e
  pub once : (p : ℕ) → p < m → IsTrue (distinct (rows p))
  pub pairs : (p : ℕ) → p < m → IsTrue (distinct (map task (rows p)))
  pub placed : (e : ℕ) → IsTrue (stands n place e) → place e < m
  pub tasked : (e : ℕ) → IsTrue (stands n place e) → task e < k
  pub stacked : (t : ℕ) → t < k → IsStack behind none (first t) (stacks t)
  pub of : (t : ℕ) → t < k → (e : ℕ) → has (stacks t) e ≡ (stands n place e && (task e == t))
  pub stacked_once : (t : ℕ) → t < k → IsTrue (distinct (stacks t))
  pub freed : IsStack behind none free frees
  pub is_free : (e : ℕ) → has frees e ≡ leads n place none e
  pub free_once : IsTrue (distinct frees)
  pub counted : length frees ≡ spare

-- the ring of a place, without the place
abbrev pub ring_of : List Edge → List Ends → ℕ → List ℕ
ring_of edges places p = walk (next_at edges places) (ring p) (length edges) (ring p)

pub record IsLinks (edges : List Edge) (places : List Ends) (firsts : List ℕ) (free spare : ℕ) : Type 0 where
  pub stacks : ℕ → List ℕ
  pub frees : List ℕ
  pub shape : IsShape (length edges) (length places) (length firsts) (next_at edges places) (previous_at edges places) (place_at edges) (task_at edges) (behind_at edges)
      (λ t. get_or firsts t none) free spare (ring_of edges places) stacks frees

-- an edge with its task
abbrev pub pair : (ℕ → ℕ) → ℕ → Pair
pair task e = (e, task e)

-- what the fields stand for
abbrev pub linked_of : List Edge → List Ends → List ℕ → ℕ → Linked
linked_of edges places firsts spare = record {
  rows = table (λ p. map (pair (task_at edges)) (ring_of edges places p)) 0 (length places);
  tasks = length firsts;
  spare = spare;
}
