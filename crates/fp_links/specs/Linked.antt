-- What links hold: for each place the edges that lead to it, the newest first.
use Rattle.std.specs.Prelude.{◌≡◌, ℕ, ◌+◌, ◌==◌, Bool, false, not, List, [], ◌∷◌, Option, Some, None, get_or, set, filter, map, count_by, IsTrue, if◌then◌else◌}
use Rattle.std.specs.List.{list_any, sum_by}
use Rattle.fp_links.specs.Rings.{distinct}

-- an edge: its number, and its task
abbrev pub Pair : Type 0
Pair = ℕ × ℕ

-- the edges of each place, how many tasks are known, and how many edges there is room for
pub record Linked : Type 0 where
  pub rows : List (List Pair)
  pub tasks : ℕ
  pub spare : ℕ

-- the edges of a place
abbrev pub row : Linked → ℕ → List Pair
row l place = get_or l.rows place []

-- whether one of the edges is of the task
abbrev pub has_task : List Pair → ℕ → Bool
has_task edges task = list_any (λ e. e.1 == task) edges

-- whether the edge of that number is one of these
abbrev pub has_edge : List Pair → ℕ → Bool
has_edge edges edge = list_any (λ e. e.0 == edge) edges

abbrev pub is_edge : Linked → ℕ → Bool
is_edge l edge = list_any (λ edges. has_edge edges edge) l.rows

-- the edges that are not of the task
abbrev pub without_task : ℕ → List Pair → List Pair
without_task task edges = filter (λ e. not (e.1 == task)) edges

-- how many edges the task has
abbrev pub edges_of : Linked → ℕ → ℕ
edges_of l task = sum_by (count_by (λ e. e.1 == task)) l.rows

-- the number of the first edge
abbrev pub first_edge : List Pair → Option ℕ
first_edge [] = None
first_edge (e ∷ es) = Some e.0

-- the number of the edge behind another
abbrev pub edge_after : List Pair → ℕ → Option ℕ
edge_after [] edge = None
edge_after (e ∷ es) edge = if e.0 == edge then first_edge es else edge_after es edge

-- the edges from that number on
abbrev pub edges_from : List Pair → ℕ → List Pair
edges_from [] edge = []
edges_from (e ∷ es) edge = if e.0 == edge then e ∷ es else edges_from es edge

-- what is left of a walk that stands at an edge, or at the end
abbrev pub rest_of : List Pair → Option ℕ → List Pair
rest_of edges None = []
rest_of edges (Some edge) = edges_from edges edge

-- no pair stands twice, and no edge: neither among those of one place nor among those of two
pub record AreDistinct (l : Linked) : Type 0 where
  pub edges : (place : ℕ) → IsTrue (distinct (map (λ e. e.0) (row l place)))
  pub tasks : (place : ℕ) → IsTrue (distinct (map (λ e. e.1) (row l place)))
  pub apart : (p q edge : ℕ) → IsTrue (has_edge (row l p) edge) → IsTrue (has_edge (row l q) edge) → p ≡ q

-- a pair is new: an edge of its own number stands before the edges of its place, and nothing else changed
pub record HasLinked (old new : Linked) (task place : ℕ) : Type 0 where
  pub edge : ℕ
  pub free : is_edge old edge ≡ false
  pub rows : new.rows ≡ set old.rows place ((edge, task) ∷ row old place)
  pub tasks : new.tasks ≡ old.tasks
  pub spare : new.spare + 1 ≡ old.spare

-- the pairs of the task are gone, and nothing else changed
pub record HasUnlinked (old new : Linked) (task : ℕ) : Type 0 where
  pub rows : new.rows ≡ map (without_task task) old.rows
  pub tasks : new.tasks ≡ old.tasks
  pub spare : new.spare ≡ old.spare + edges_of old task

-- one edge of the task is gone: the edges of other tasks stay
pub record HasDropped (old new : Linked) (task : ℕ) : Type 0 where
  pub others : map (without_task task) new.rows ≡ map (without_task task) old.rows
  pub fewer : edges_of new task + 1 ≡ edges_of old task
  pub tasks : new.tasks ≡ old.tasks
  pub spare : new.spare ≡ old.spare + 1

-- the task of the edge of that number
abbrev pub task_of_edge : List Pair → ℕ → ℕ
task_of_edge [] edge = 0
task_of_edge (e ∷ es) edge = if e.0 == edge then e.1 else task_of_edge es edge
