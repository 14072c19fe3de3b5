-- From the shape of the fields to what the fields stand for.
use Rattle.std.proofs.Common.{◌≡◌, ◌<◌, ◌≤◌, ◌+◌, ◌-◌, ◌^◌, ◌==◌, ◌||◌, ◌⊎◌, nat_lt, ℕ, true, false, List, [], ◌∷◌, ◌++◌, length, get_or, set, map, Some, None, IsTrue, if◌then◌else◌, refl, sym, ap, subst, ◌∙◌, inl, inr, arith}
use Rattle.std.specs.List.{sum_by}
use Rattle.std.proofs.lemmas.Bool.{cases_eq, cases_lt, eq-eqb, ne_eqb, and_from}
use Rattle.std.proofs.lemmas.List.{map-set, set-get_or, length-set, get_or-set_same, get_or-set_other, length_push, get_or_push, get_or_past, get_or_append_left, get_or_default}
use Rattle.std.proofs.lemmas.List.Sums.{sum_by-set}
use Rattle.fp_links.specs.declared.edge.Edge.{Edge}
use Rattle.fp_links.specs.declared.edge.Ends.{Ends}
use Rattle.fp_links.specs.Linked.{Pair, HasLinked, HasDropped, AreDistinct, row, is_edge, has_edge, task_of_edge, first_edge, edge_after, rest_of, has_task, without_task, edges_of}
use Rattle.fp_links.specs.Rings.{put, IsLinked, IsStack, has, distinct, without, table}
use Rattle.fp_links.specs.Fields.{IsShape, IsLinks, leads, stands, none, ring, ring_of, linked_of, next_at, previous_at, place_at, task_at, behind_at, pair}
use Rattle.fp_links.proofs.RingLemmas.{put-here, put-other, and-parts, has-here, has-later, apart, few-below, same-from, next-in, previous-in}
use Rattle.fp_links.proofs.ShapeLemmas.{walks, same-rows, shape-link, shape-drop, shape-edge, shape-place, shape-task, leads-parts, leads-elsewhere, leads-from, leads-past, stands-parts, stands-from}
use Rattle.fp_links.proofs.RowLemmas.{table-same, length-table, get_or-table, table-put, any-table, edge-pairs, task-pairs, pairs-same, table-push, others-stay, count, one-less, none-of, sum-table-none, next-first, next-after, rest-step, task-told, any-found, numbers-of, tasks-of}
use Rattle.fp_links.proofs.EdgeLemmas.{next-push, previous-push, place-push, task-push, behind-push, next-push_ends, previous-push_ends}

-- the fields of a shape, and the edges of each place by the rows of the shape
pub is-links : (edges : List Edge) (places : List Ends) (firsts : List ℕ) (free spare : ℕ) (rows stacks : ℕ → List ℕ) (frees : List ℕ) →
    IsShape (length edges) (length places) (length firsts) (next_at edges places) (previous_at edges places) (place_at edges) (task_at edges) (behind_at edges) (λ t. get_or firsts t none) free spare rows stacks frees →
    IsLinks edges places firsts free spare
is-links edges places firsts free spare rows stacks frees s = record { stacks = stacks; frees = frees; shape = same-rows (ring_of edges places) s (λ p lt. walks s p lt) }

pub rows-are : (edges : List Edge) (places : List Ends) (firsts : List ℕ) (free spare : ℕ) (rows stacks : ℕ → List ℕ) (frees : List ℕ) →
    IsShape (length edges) (length places) (length firsts) (next_at edges places) (previous_at edges places) (place_at edges) (task_at edges) (behind_at edges) (λ t. get_or firsts t none) free spare rows stacks frees →
    (linked_of edges places firsts spare).rows ≡ table (λ p. map (pair (task_at edges)) (rows p)) 0 (length places)
rows-are edges places firsts free spare rows stacks frees s =
    table-same (λ p. map (pair (task_at edges)) (ring_of edges places p)) (λ p. map (pair (task_at edges)) (rows p)) 0 (length places) (λ q le lt. ap (map (pair (task_at edges))) (walks s q (omega arith)))

pub places-are : (edges : List Edge) (places : List Ends) (firsts : List ℕ) (spare : ℕ) → length (linked_of edges places firsts spare).rows ≡ length places
places-are edges places firsts spare = length-table (λ p. map (pair (task_at edges)) (ring_of edges places p)) 0 (length places)

-- functions that agree everywhere have the same shape
pub shape-along : (n m k n2 m2 k2 : ℕ) (next previous place task behind first next2 previous2 place2 task2 behind2 first2 : ℕ → ℕ) (free spare free2 spare2 : ℕ) (rows stacks : ℕ → List ℕ) (frees : List ℕ) →
    IsShape n m k next previous place task behind first free spare rows stacks frees → n2 ≡ n → m2 ≡ m → k2 ≡ k →
    ((x : ℕ) → next2 x ≡ next x) → ((x : ℕ) → previous2 x ≡ previous x) → ((x : ℕ) → place2 x ≡ place x) → ((x : ℕ) → task2 x ≡ task x) → ((x : ℕ) → behind2 x ≡ behind x) → ((x : ℕ) → first2 x ≡ first x) →
    free2 ≡ free → spare2 ≡ spare → IsShape n2 m2 k2 next2 previous2 place2 task2 behind2 first2 free2 spare2 rows stacks frees
shape-along n m k n2 m2 k2 next previous place task behind first next2 previous2 place2 task2 behind2 first2 free spare free2 spare2 rows stacks frees s en em ek hn hp hl ht hb hf ef es =
    let a : next ≡ next2 = λ i x. sym (hn x) i in
    let b : previous ≡ previous2 = λ i x. sym (hp x) i in
    let c : place ≡ place2 = λ i x. sym (hl x) i in
    let d : task ≡ task2 = λ i x. sym (ht x) i in
    let e : behind ≡ behind2 = λ i x. sym (hb x) i in
    let f : first ≡ first2 = λ i x. sym (hf x) i in
    subst (λ z. IsShape z m2 k2 next2 previous2 place2 task2 behind2 first2 free2 spare2 rows stacks frees) (sym en)
    (subst (λ z. IsShape n z k2 next2 previous2 place2 task2 behind2 first2 free2 spare2 rows stacks frees) (sym em)
    (subst (λ z. IsShape n m z next2 previous2 place2 task2 behind2 first2 free2 spare2 rows stacks frees) (sym ek)
    (subst (λ z. IsShape n m k z previous2 place2 task2 behind2 first2 free2 spare2 rows stacks frees) a
    (subst (λ z. IsShape n m k next z place2 task2 behind2 first2 free2 spare2 rows stacks frees) b
    (subst (λ z. IsShape n m k next previous z task2 behind2 first2 free2 spare2 rows stacks frees) c
    (subst (λ z. IsShape n m k next previous place z behind2 first2 free2 spare2 rows stacks frees) d
    (subst (λ z. IsShape n m k next previous place task z first2 free2 spare2 rows stacks frees) e
    (subst (λ z. IsShape n m k next previous place task behind z free2 spare2 rows stacks frees) f
    (subst (λ z. IsShape n m k next previous place task behind first z spare2 rows stacks frees) (sym ef)
    (subst (λ z. IsShape n m k next previous place task behind first free z rows stacks frees) (sym es) s))))))))))

-- the first edges of tasks, one of them changed
pub firsts-set : (firsts : List ℕ) (t v x : ℕ) → t < length firsts → get_or (set firsts t v) x none ≡ put (λ u. get_or firsts u none) t v x
firsts-set firsts t v x lt = elim (cases_eq x t) [
  | inl same ↦ ap (λ z. get_or (set firsts t v) z none) same ∙ get_or-set_same firsts t v none lt ∙ sym (put-here (λ u. get_or firsts u none) t v x same)
  | inr ne ↦ get_or-set_other firsts t x v none ne ∙ sym (put-other (λ u. get_or firsts u none) t v x ne)
]

-- what a free list with room tells
pub free-head : (n m k : ℕ) (next previous place task behind first : ℕ → ℕ) (free spare : ℕ) (rows stacks : ℕ → List ℕ) (frees : List ℕ) →
    IsShape n m k next previous place task behind first free spare rows stacks frees → 0 < spare → (fs : List ℕ) × (frees ≡ free ∷ fs)
free-head n m k next previous place task behind first free spare rows stacks [] s room = absurd (let c = s.counted in omega arith)
free-head n m k next previous place task behind first free spare rows stacks (f ∷ fs) s room = (fs, ap (λ z. z ∷ fs) (sym s.freed.0))

-- what the clauses of `insert` give
pub record Inserted (edges : List Edge) (places : List Ends) (edges2 : List Edge) (places2 : List Ends) (e p t b : ℕ) : Type 0 where
  pub edges_stay : length edges2 ≡ length edges
  pub places_stay : length places2 ≡ length places
  pub next : (x : ℕ) → next_at edges2 places2 x ≡ put (put (next_at edges places) e (next_at edges places (ring p))) (ring p) e x
  pub previous : (x : ℕ) → previous_at edges2 places2 x ≡ put (put (previous_at edges places) e (ring p)) (next_at edges places (ring p)) e x
  pub place : (x : ℕ) → place_at edges2 x ≡ put (place_at edges) e p x
  pub task : (x : ℕ) → task_at edges2 x ≡ put (task_at edges) e t x
  pub behind : (x : ℕ) → behind_at edges2 x ≡ put (behind_at edges) e b x

-- the edges of a place, by the fields
pub row-is : (edges : List Edge) (places : List Ends) (firsts : List ℕ) (spare p : ℕ) → p < length places → row (linked_of edges places firsts spare) p ≡ map (pair (task_at edges)) (ring_of edges places p)
row-is edges places firsts spare p lt = get_or-table (λ q. map (pair (task_at edges)) (ring_of edges places q)) 0 (length places) p [] lt ∙ ap (λ z. map (pair (task_at edges)) (ring_of edges places z)) (omega arith)

linked-shape : (edges edges2 : List Edge) (places places2 : List Ends) (firsts : List ℕ) (free spare t p : ℕ) (l : IsLinks edges places firsts free spare) (fs : List ℕ) → l.frees ≡ free ∷ fs →
    Inserted edges places edges2 places2 free p t (get_or firsts t none) → t < length firsts → p < length places → has (map (task_at edges) (ring_of edges places p)) t ≡ false →
    IsShape (length edges2) (length places2) (length (set firsts t free)) (next_at edges2 places2) (previous_at edges2 places2) (place_at edges2) (task_at edges2) (behind_at edges2) (λ u. get_or (set firsts t free) u none)
    (behind_at edges free) (spare - 1) (put (ring_of edges places) p (free ∷ ring_of edges places p)) (put l.stacks t (free ∷ l.stacks t)) fs
linked-shape edges edges2 places places2 firsts free spare t p l fs head made lt lp absent =
    let n = length edges in let m = length places in let k = length firsts in
    let s : IsShape n m k (next_at edges places) (previous_at edges places) (place_at edges) (task_at edges) (behind_at edges) (λ u. get_or firsts u none) free spare (ring_of edges places) l.stacks (free ∷ fs) =
    subst (λ z. IsShape n m k (next_at edges places) (previous_at edges places) (place_at edges) (task_at edges) (behind_at edges) (λ u. get_or firsts u none) free spare (ring_of edges places) l.stacks z) head l.shape in
    let new = shape-link n m k (next_at edges places) (previous_at edges places) (place_at edges) (task_at edges) (behind_at edges) (λ u. get_or firsts u none) free spare (ring_of edges places) l.stacks fs t p s lt lp absent in
    shape-along n m k (length edges2) (length places2) (length (set firsts t free)) _ _ _ _ _ _ _ _ _ _ _ _ _ _ _ _ _ _ _ new made.edges_stay made.places_stay (length-set firsts t free)
    made.next made.previous made.place made.task made.behind (λ x. firsts-set firsts t free x lt) refl refl

pub linked-made : (edges edges2 : List Edge) (places places2 : List Ends) (firsts : List ℕ) (free spare t p : ℕ) → IsLinks edges places firsts free spare →
    Inserted edges places edges2 places2 free p t (get_or firsts t none) → t < length firsts → p < length places → 0 < spare → has_task (row (linked_of edges places firsts spare) p) t ≡ false →
    IsLinks edges2 places2 (set firsts t free) (behind_at edges free) (spare - 1) × HasLinked (linked_of edges places firsts spare) (linked_of edges2 places2 (set firsts t free) (spare - 1)) t p
linked-made edges edges2 places places2 firsts free spare t p l made lt lp room absent =
    let head = free-head (length edges) (length places) (length firsts) (next_at edges places) (previous_at edges places) (place_at edges) (task_at edges) (behind_at edges) (λ u. get_or firsts u none) free spare (ring_of edges places) l.stacks l.frees l.shape room in
    let none_yet : has (map (task_at edges) (ring_of edges places p)) t ≡ false = sym (task-pairs (task_at edges) (ring_of edges places p) t) ∙ ap (λ r. has_task r t) (sym (row-is edges places firsts spare p lp)) ∙ absent in
    let s = linked-shape edges edges2 places places2 firsts free spare t p l head.0 head.1 made lt lp none_yet in
    let fresh : (q : ℕ) → q < length places → has (ring_of edges places q) free ≡ false = λ q lq. not-in q lq head.0 head.1 in (
      is-links edges2 places2 (set firsts t free) (behind_at edges free) (spare - 1) _ _ head.0 s,
      record {
        edge = free;
        free = any-table (λ r. has_edge r free) (λ q. map (pair (task_at edges)) (ring_of edges places q)) 0 (length places) (λ q le less. edge-pairs (task_at edges) (ring_of edges places q) free ∙ fresh q (omega arith));
        rows = rows-are edges2 places2 (set firsts t free) (behind_at edges free) (spare - 1) _ _ head.0 s ∙ rows_new fresh;
        tasks = length-set firsts t free;
        spare = omega arith;
      },
    )
  where
    not-in : (q : ℕ) → q < length places → (fs : List ℕ) → l.frees ≡ free ∷ fs → has (ring_of edges places q) free ≡ false
    not-in q lq fs head =
        let at : leads (length edges) (place_at edges) none free ≡ true = sym (l.shape.is_free free) ∙ ap (λ xs. has xs free) head ∙ has-here free fs in
        let parts = leads-parts (length edges) (place_at edges) none free at in
        l.shape.on q lq free ∙ leads-elsewhere (length edges) (place_at edges) none q free parts.1 (λ same. let big = l.shape.room in let less = parts.0 in omega arith)

    rows_new : ((q : ℕ) → q < length places → has (ring_of edges places q) free ≡ false) →
        table (λ q. map (pair (task_at edges2)) (put (ring_of edges places) p (free ∷ ring_of edges places p) q)) 0 (length places2) ≡ set (linked_of edges places firsts spare).rows p ((free, t) ∷ row (linked_of edges places firsts spare) p)
    rows_new fresh =
        let old : ℕ → List Pair = λ q. map (pair (task_at edges)) (ring_of edges places q) in
        let start : 0 + p ≡ p = omega arith in
        let others : (q : ℕ) → q < length places → map (pair (task_at edges2)) (ring_of edges places q) ≡ old q =
        λ q lq. pairs-same (task_at edges2) (task_at edges) (ring_of edges places q) (λ x h. made.task x ∙ put-other (task_at edges) free t x (apart (ring_of edges places q) free x (fresh q lq) h)) in
        let own : map (pair (task_at edges2)) (free ∷ ring_of edges places p) ≡ (free, t) ∷ old p =
        ap (λ z. (free, z) ∷ map (pair (task_at edges2)) (ring_of edges places p)) (made.task free ∙ put-here (task_at edges) free t free refl) ∙ ap (λ r. (free, t) ∷ r) (others p lp) in
        ap (table (λ q. map (pair (task_at edges2)) (put (ring_of edges places) p (free ∷ ring_of edges places p) q)) 0) made.places_stay
        ∙ table-same (λ q. map (pair (task_at edges2)) (put (ring_of edges places) p (free ∷ ring_of edges places p) q)) (put old p ((free, t) ∷ old p)) 0 (length places)
        (λ q le less. elim (cases_eq q p) [
          | inl same ↦ ap (map (pair (task_at edges2))) (put-here (ring_of edges places) p (free ∷ ring_of edges places p) q same) ∙ own ∙ sym (put-here old p ((free, t) ∷ old p) q same)
          | inr ne ↦ ap (map (pair (task_at edges2))) (put-other (ring_of edges places) p (free ∷ ring_of edges places p) q ne) ∙ others q (omega arith) ∙ sym (put-other old p ((free, t) ∷ old p) q ne)
        ])
        ∙ ap (λ z. table (put old z ((free, t) ∷ old p)) 0 (length places)) (sym start) ∙ table-put old ((free, t) ∷ old p) 0 (length places) p lp
        ∙ ap (λ r. set (table old 0 (length places)) p ((free, t) ∷ r)) (sym (row-is edges places firsts spare p lp))

-- with room the first free edge is an edge
pub free-edge : (edges : List Edge) (places : List Ends) (firsts : List ℕ) (free spare : ℕ) → IsLinks edges places firsts free spare → 0 < spare → free < length edges
free-edge edges places firsts free spare l room =
    let head = free-head (length edges) (length places) (length firsts) (next_at edges places) (previous_at edges places) (place_at edges) (task_at edges) (behind_at edges) (λ u. get_or firsts u none) free spare (ring_of edges places) l.stacks l.frees l.shape room in
    let at : leads (length edges) (place_at edges) none free ≡ true = sym (l.shape.is_free free) ∙ ap (λ xs. has xs free) head.1 ∙ has-here free head.0 in
    (leads-parts (length edges) (place_at edges) none free at).0

-- what stands in a ring is an edge or the place
pub ring-number : (edges : List Edge) (places : List Ends) (firsts : List ℕ) (free spare p x : ℕ) → IsLinks edges places firsts free spare → p < length places → has (ring p ∷ ring_of edges places p) x ≡ true →
    (x < length edges) ⊎ (none - x < length places)
ring-number edges places firsts free spare p x l lp h =
    elim (cases_eq (ring p) x) [
      | inl same ↦ inr (let room = l.shape.room in omega arith)
      | inr ne ↦ inl ((leads-parts (length edges) (place_at edges) p x (sym (l.shape.on p lp x) ∙ sym (ap (λ b. b || has (ring_of edges places p) x) (ne_eqb (ring p) x ne)) ∙ h)).0)
    ]

pub first-in : (next previous : ℕ → ℕ) (x : ℕ) (xs : List ℕ) → IsLinked next previous x xs x → has (x ∷ xs) (next x) ≡ true
first-in next previous x [] l = subst (λ z. has (x ∷ []) z ≡ true) (sym l.0) (has-here x [])
first-in next previous x (y ∷ ys) l = subst (λ z. has (x ∷ y ∷ ys) z ≡ true) (sym l.0) (has-later x y (y ∷ ys) (has-here y ys))

pub ring-first : (edges : List Edge) (places : List Ends) (firsts : List ℕ) (free spare p : ℕ) → IsLinks edges places firsts free spare → p < length places →
    (next_at edges places (ring p) < length edges) ⊎ (none - next_at edges places (ring p) < length places)
ring-first edges places firsts free spare p l lp =
    ring-number edges places firsts free spare p (next_at edges places (ring p)) l lp (first-in (next_at edges places) (previous_at edges places) (ring p) (ring_of edges places p) (l.shape.linked p lp))

-- a pair is linked, with the lists as the code has them
pub linked-by : (edges o edges2 w : List Edge) (places q places2 v : List Ends) (firsts : List ℕ) (free spare t p b f : ℕ) → IsLinks edges places firsts free spare →
    o ≡ edges → q ≡ places → Inserted o q edges2 places2 free p t b → b ≡ get_or firsts t none → f ≡ behind_at edges free → w ≡ edges2 → v ≡ places2 →
    t < length firsts → p < length places → 0 < spare → has_task (row (linked_of edges places firsts spare) p) t ≡ false →
    IsLinks w v (set firsts t free) f (spare - 1) × HasLinked (linked_of edges places firsts spare) (linked_of w v (set firsts t free) (spare - 1)) t p
linked-by edges o edges2 w places q places2 v firsts free spare t p b f l eo eq made eb ef ew ev lt lp room absent =
    let here : Inserted edges places edges2 places2 free p t (get_or firsts t none) =
    subst (λ z. Inserted z places edges2 places2 free p t (get_or firsts t none)) eo (subst (λ z. Inserted o z edges2 places2 free p t (get_or firsts t none)) eq (subst (λ z. Inserted o q edges2 places2 free p t z) eb made)) in
    let both = linked-made edges edges2 places places2 firsts free spare t p l here lt lp room absent in (
      subst (λ z. IsLinks z v (set firsts t free) f (spare - 1)) (sym ew) (subst (λ z. IsLinks edges2 z (set firsts t free) f (spare - 1)) (sym ev) (subst (λ z. IsLinks edges2 places2 (set firsts t free) z (spare - 1)) (sym ef) both.0)),
      subst (λ z. HasLinked (linked_of edges places firsts spare) (linked_of z v (set firsts t free) (spare - 1)) t p) (sym ew)
          (subst (λ z. HasLinked (linked_of edges places firsts spare) (linked_of edges2 z (set firsts t free) (spare - 1)) t p) (sym ev) both.1),
    )

-- ---- the newest pair of a task is dropped

-- what the newest edge of a task is
pub record IsNewest (edges : List Edge) (places : List Ends) (stacks : ℕ → List ℕ) (t e : ℕ) : Type 0 where
  pub ss : List ℕ
  pub stack : stacks t ≡ e ∷ ss
  pub below : e < length edges
  pub place_known : place_at edges e < length places
  pub of_task : task_at edges e ≡ t
  pub member : has (ring_of edges places (place_at edges e)) e ≡ true

-- a task's list begins with an edge, or there is none
pub newest-of : (edges : List Edge) (places : List Ends) (firsts : List ℕ) (free spare t : ℕ) (l : IsLinks edges places firsts free spare) → t < length firsts → (get_or firsts t none ≡ none → ⊥) →
    IsNewest edges places l.stacks t (get_or firsts t none)
newest-of edges places firsts free spare t l lt some = go (l.stacks t) refl (l.shape.stacked t lt)
  where
    go : (xs : List ℕ) → l.stacks t ≡ xs → IsStack (behind_at edges) none (get_or firsts t none) xs → IsNewest edges places l.stacks t (get_or firsts t none)
    go [] same h = absurd (some h)
    go (x ∷ xs) same h =
        let e = get_or firsts t none in
        let at : has (l.stacks t) e ≡ true = ap (λ ys. has ys e) same ∙ ap (λ b. b || has xs e) (eq-eqb x e (sym h.0)) in
        let parts = and-parts (stands (length edges) (place_at edges) e) (task_at edges e == t) (sym (l.shape.of t lt e) ∙ at) in
        let stand = stands-parts (length edges) (place_at edges) e parts.0 in
        let known = l.shape.placed e parts.0 in
        record {
          ss = xs;
          stack = same ∙ ap (λ z. z ∷ xs) (sym h.0);
          below = stand.0;
          place_known = known;
          of_task = same-from (task_at edges e) t parts.1;
          member = l.shape.on (place_at edges e) known e ∙ leads-from (length edges) (place_at edges) (place_at edges e) e stand.0 refl;
        }

-- the same of the number that the code read
pub newest-by : (edges : List Edge) (places : List Ends) (firsts : List ℕ) (free spare t e d : ℕ) (l : IsLinks edges places firsts free spare) → t < length firsts → e ≡ get_or firsts t d → (e ≡ none → ⊥) → IsNewest edges places l.stacks t e
newest-by edges places firsts free spare t e d l lt read some =
    let same : e ≡ get_or firsts t none = read ∙ get_or_default firsts t d none lt in
    subst (λ z. IsNewest edges places l.stacks t z) (sym same) (newest-of edges places firsts free spare t l lt (λ h. some (same ∙ h)))

-- a task whose list is empty has no edge
pub no-edges : (edges : List Edge) (places : List Ends) (firsts : List ℕ) (free spare t : ℕ) → IsLinks edges places firsts free spare → t < length firsts → get_or firsts t none ≡ none → edges_of (linked_of edges places firsts spare) t ≡ 0
no-edges edges places firsts free spare t l lt start =
    sum-table-none (count t) (λ p. map (pair (task_at edges)) (ring_of edges places p)) 0 (length places)
    (λ q le less. none-of (task_at edges) t (ring_of edges places q) (λ x h same. nowhere (l.stacks t) refl (l.shape.stacked t lt) q (omega arith) x h same))
  where
    nowhere : (xs : List ℕ) → l.stacks t ≡ xs → IsStack (behind_at edges) none (get_or firsts t none) xs → (q : ℕ) → q < length places → (x : ℕ) → has (ring_of edges places q) x ≡ true → task_at edges x ≡ t → ⊥
    nowhere [] same h q lq x at own =
        let parts = leads-parts (length edges) (place_at edges) q x (sym (l.shape.on q lq x) ∙ at) in
        let stand = stands-from (length edges) (place_at edges) x parts.0 (λ e. let room = l.shape.room in let f = parts.1 in omega arith) in
        let listed : has (l.stacks t) x ≡ true = l.shape.of t lt x ∙ and_from (stands (length edges) (place_at edges) x) (task_at edges x == t) stand (eq-eqb (task_at edges x) t own) in
        let fails = ap (λ ys. has ys x) same in cc
    nowhere (y ∷ ys) same h q lq x at own =
        let first : y ≡ none = sym h.0 ∙ start in
        let listed : has (l.stacks t) y ≡ true = ap (λ zs. has zs y) same ∙ has-here y ys in
        let parts = and-parts (stands (length edges) (place_at edges) y) (task_at edges y == t) (sym (l.shape.of t lt y) ∙ listed) in
        let stand = stands-parts (length edges) (place_at edges) y parts.0 in
        let room = l.shape.room in let below = stand.0 in omega arith

-- what the clauses of `remove` give
pub record Removed (edges : List Edge) (places : List Ends) (edges2 : List Edge) (places2 : List Ends) (e b : ℕ) : Type 0 where
  pub edges_stay : length edges2 ≡ length edges
  pub places_stay : length places2 ≡ length places
  pub next : (x : ℕ) → next_at edges2 places2 x ≡ put (next_at edges places) (previous_at edges places e) (next_at edges places e) x
  pub previous : (x : ℕ) → previous_at edges2 places2 x ≡ put (previous_at edges places) (next_at edges places e) (previous_at edges places e) x
  pub place : (x : ℕ) → place_at edges2 x ≡ put (place_at edges) e none x
  pub task : (x : ℕ) → task_at edges2 x ≡ task_at edges x
  pub behind : (x : ℕ) → behind_at edges2 x ≡ put (behind_at edges) e b x

pub dropped-made : (edges edges2 : List Edge) (places places2 : List Ends) (firsts : List ℕ) (free spare t e : ℕ) (l : IsLinks edges places firsts free spare) →
    Removed edges places edges2 places2 e free → t < length firsts → IsNewest edges places l.stacks t e →
    IsLinks edges2 places2 (set firsts t (behind_at edges e)) e (spare + 1) × HasDropped (linked_of edges places firsts spare) (linked_of edges2 places2 (set firsts t (behind_at edges e)) (spare + 1)) t
dropped-made edges edges2 places places2 firsts free spare t e l made lt new =
    let n = length edges in let m = length places in let k = length firsts in
    let p = place_at edges e in
    let shape = shape-drop n m k (next_at edges places) (previous_at edges places) (place_at edges) (task_at edges) (behind_at edges) (λ u. get_or firsts u none) free spare (ring_of edges places) l.stacks l.frees t e new.ss l.shape lt new.stack in
    let s = shape-along n m k (length edges2) (length places2) (length (set firsts t (behind_at edges e))) _ _ _ _ _ _ _ _ _ _ _ _ _ _ _ _ _ _ _ shape made.edges_stay made.places_stay (length-set firsts t (behind_at edges e))
    made.next made.previous made.place made.task made.behind (λ x. firsts-set firsts t (behind_at edges e) x lt) refl refl in
    let old : ℕ → List Pair = λ q. map (pair (task_at edges)) (ring_of edges places q) in
    let rest : List Pair = map (pair (task_at edges)) (without e (ring_of edges places p)) in
    let same_tasks : (xs : List ℕ) → map (pair (task_at edges2)) xs ≡ map (pair (task_at edges)) xs = λ xs. pairs-same (task_at edges2) (task_at edges) xs (λ x h. made.task x) in
    let start : 0 + p ≡ p = omega arith in
    let rows : (linked_of edges2 places2 (set firsts t (behind_at edges e)) (spare + 1)).rows ≡ set (linked_of edges places firsts spare).rows p rest =
    rows-are edges2 places2 (set firsts t (behind_at edges e)) e (spare + 1) _ _ (e ∷ l.frees) s
    ∙ ap (table (λ q. map (pair (task_at edges2)) (put (ring_of edges places) p (without e (ring_of edges places p)) q)) 0) made.places_stay
    ∙ table-same (λ q. map (pair (task_at edges2)) (put (ring_of edges places) p (without e (ring_of edges places p)) q)) (put old p rest) 0 m
    (λ q le less. same_tasks (put (ring_of edges places) p (without e (ring_of edges places p)) q) ∙ elim (cases_eq q p) [
      | inl same ↦ ap (map (pair (task_at edges))) (put-here (ring_of edges places) p (without e (ring_of edges places p)) q same) ∙ sym (put-here old p rest q same)
      | inr ne ↦ ap (map (pair (task_at edges))) (put-other (ring_of edges places) p (without e (ring_of edges places p)) q ne) ∙ sym (put-other old p rest q ne)
    ])
    ∙ ap (λ z. table (put old z rest) 0 m) (sym start) ∙ table-put old rest 0 m p new.place_known in
    let here : get_or (linked_of edges places firsts spare).rows p [] ≡ old p = row-is edges places firsts spare p new.place_known in
    let others : without_task t rest ≡ without_task t (get_or (linked_of edges places firsts spare).rows p []) = others-stay (task_at edges) e t (ring_of edges places p) new.of_task ∙ ap (without_task t) (sym here) in
    let less : count t rest + 1 ≡ count t (get_or (linked_of edges places firsts spare).rows p []) =
    one-less (task_at edges) e t (ring_of edges places p) new.of_task (l.shape.once p new.place_known) new.member ∙ ap (count t) (sym here) in
    let inside : p < length (linked_of edges places firsts spare).rows = omega (arith, places-are edges places firsts spare, new.place_known) in (
      is-links edges2 places2 (set firsts t (behind_at edges e)) e (spare + 1) _ _ (e ∷ l.frees) s,
      record {
        others = ap (map (without_task t)) rows ∙ map-set (without_task t) (linked_of edges places firsts spare).rows p rest
            ∙ ap (set (map (without_task t) (linked_of edges places firsts spare).rows) p) others ∙ sym (map-set (without_task t) (linked_of edges places firsts spare).rows p (get_or (linked_of edges places firsts spare).rows p []))
            ∙ ap (map (without_task t)) (set-get_or (linked_of edges places firsts spare).rows p []);
        fewer = (let sum = sum_by-set (count t) (linked_of edges places firsts spare).rows p rest [] inside in let now = ap (sum_by (count t)) rows in omega arith);
        tasks = length-set firsts t (behind_at edges e);
        spare = refl;
      },
    )

-- the same, with the lists as the code has them
pub dropped-by : (edges o edges2 w : List Edge) (places q places2 v : List Ends) (firsts : List ℕ) (free spare t e b : ℕ) (l : IsLinks edges places firsts free spare) →
    o ≡ edges → q ≡ places → Removed o q edges2 places2 e free → IsNewest edges places l.stacks t e → b ≡ behind_at edges e → w ≡ edges2 → v ≡ places2 → t < length firsts →
    IsLinks w v (set firsts t b) e (spare + 1) × HasDropped (linked_of edges places firsts spare) (linked_of w v (set firsts t b) (spare + 1)) t
dropped-by edges o edges2 w places q places2 v firsts free spare t e b l eo eq made new eb ew ev lt =
    let here : Removed edges places edges2 places2 e free = subst (λ z. Removed z places edges2 places2 e free) eo (subst (λ z. Removed o z edges2 places2 e free) eq made) in
    let both = dropped-made edges edges2 places places2 firsts free spare t e l here lt new in (
      subst (λ z. IsLinks z v (set firsts t b) e (spare + 1)) (sym ew) (subst (λ z. IsLinks edges2 z (set firsts t b) e (spare + 1)) (sym ev) (subst (λ z. IsLinks edges2 places2 (set firsts t z) e (spare + 1)) (sym eb) both.0)),
      subst (λ z. HasDropped (linked_of edges places firsts spare) (linked_of z v (set firsts t b) (spare + 1)) t) (sym ew)
          (subst (λ z. HasDropped (linked_of edges places firsts spare) (linked_of edges2 z (set firsts t b) (spare + 1)) t) (sym ev)
          (subst (λ z. HasDropped (linked_of edges places firsts spare) (linked_of edges2 places2 (set firsts t z) (spare + 1)) t) (sym eb) both.1)),
    )

-- ---- growth

pub edge-added : (edges : List Edge) (places : List Ends) (firsts : List ℕ) (free spare : ℕ) (new : Edge) → IsLinks edges places firsts free spare → length edges + 1 + length places < 2 ^ 32 → new.place ≡ none → new.behind ≡ free →
    IsLinks (edges ++ new ∷ []) places firsts (length edges) (spare + 1) × ((linked_of (edges ++ new ∷ []) places firsts (spare + 1)).rows ≡ (linked_of edges places firsts spare).rows)
edge-added edges places firsts free spare new l room here behind =
    let n = length edges in let m = length places in let k = length firsts in
    let shape = shape-edge n m k (next_at edges places) (previous_at edges places) (place_at edges) (task_at edges) (behind_at edges) (λ u. get_or firsts u none) free spare new.next new.previous new.task (ring_of edges places) l.stacks l.frees l.shape room in
    let s = shape-along (n + 1) m k (length (edges ++ new ∷ [])) m k _ _ _ _ _ _ _ _ _ _ _ _ _ _ _ _ _ _ _ shape (length_push edges new) refl refl
    (next-push edges places new) (previous-push edges places new) (λ x. place-push edges new x ∙ ap (λ z. put (place_at edges) n z x) here) (task-push edges new)
    (λ x. behind-push edges new x ∙ ap (λ z. put (behind_at edges) n z x) behind) (λ x. refl) refl refl in (
      is-links (edges ++ new ∷ []) places firsts n (spare + 1) (ring_of edges places) l.stacks (n ∷ l.frees) s,
      rows-are (edges ++ new ∷ []) places firsts n (spare + 1) (ring_of edges places) l.stacks (n ∷ l.frees) s
          ∙ table-same _ _ 0 m (λ q le less. pairs-same (task_at (edges ++ new ∷ [])) (task_at edges) (ring_of edges places q) (λ x h. task-push edges new x ∙ put-other (task_at edges) n new.task x (λ same.
          let parts = leads-parts n (place_at edges) q x (sym (l.shape.on q (omega arith) x) ∙ h) in let below = parts.0 in omega arith))),
    )

pub place-added : (edges : List Edge) (places : List Ends) (firsts : List ℕ) (free spare : ℕ) (new : Ends) → IsLinks edges places firsts free spare → length edges + length places + 1 < 2 ^ 32 → new.next ≡ ring (length places) → new.previous ≡ ring (length places) →
    IsLinks edges (places ++ new ∷ []) firsts free spare × ((linked_of edges (places ++ new ∷ []) firsts spare).rows ≡ (linked_of edges places firsts spare).rows ++ [] ∷ [])
place-added edges places firsts free spare new l room next previous =
    let n = length edges in let m = length places in let k = length firsts in
    let shape = shape-place n m k (next_at edges places) (previous_at edges places) (place_at edges) (task_at edges) (behind_at edges) (λ u. get_or firsts u none) free spare (ring_of edges places) l.stacks l.frees l.shape room in
    let s = shape-along n (m + 1) k n (length (places ++ new ∷ [])) k _ _ _ _ _ _ _ _ _ _ _ _ _ _ _ _ _ _ _ shape refl (length_push places new) refl
    (λ x. next-push_ends edges places new x (omega arith) ∙ ap (λ z. put (next_at edges places) (ring m) z x) next) (λ x. previous-push_ends edges places new x (omega arith) ∙ ap (λ z. put (previous_at edges places) (ring m) z x) previous)
    (λ x. refl) (λ x. refl) (λ x. refl) (λ x. refl) refl refl in
    let old : ℕ → List Pair = λ q. map (pair (task_at edges)) (ring_of edges places q) in
    let start : 0 + m ≡ m = omega arith in (
      is-links edges (places ++ new ∷ []) firsts free spare (put (ring_of edges places) m []) l.stacks l.frees s,
      rows-are edges (places ++ new ∷ []) firsts free spare (put (ring_of edges places) m []) l.stacks l.frees s
          ∙ ap (table (λ q. map (pair (task_at edges)) (put (ring_of edges places) m [] q)) 0) (length_push places new)
          ∙ table-push (λ q. map (pair (task_at edges)) (put (ring_of edges places) m [] q)) 0 m
          ∙ ap (λ z. table (λ q. map (pair (task_at edges)) (put (ring_of edges places) m [] q)) 0 m ++ map (pair (task_at edges)) z ∷ []) (put-here (ring_of edges places) m [] (0 + m) start)
          ∙ ap (λ r. r ++ [] ∷ []) (table-same (λ q. map (pair (task_at edges)) (put (ring_of edges places) m [] q)) old 0 m (λ q le less. ap (map (pair (task_at edges))) (put-other (ring_of edges places) m [] q (λ e. omega arith)))),
    )

pub task-added : (edges : List Edge) (places : List Ends) (firsts : List ℕ) (free spare : ℕ) → IsLinks edges places firsts free spare → IsLinks edges places (firsts ++ none ∷ []) free spare
task-added edges places firsts free spare l =
    let n = length edges in let m = length places in let k = length firsts in
    let shape = shape-task n m k (next_at edges places) (previous_at edges places) (place_at edges) (task_at edges) (behind_at edges) (λ u. get_or firsts u none) free spare (ring_of edges places) l.stacks l.frees l.shape (get_or_past firsts k none (omega arith)) in
    let s = shape-along n m (k + 1) n m (length (firsts ++ none ∷ [])) _ _ _ _ _ _ _ _ _ _ _ _ _ _ _ _ _ _ _ shape refl refl (length_push firsts none)
    (λ x. refl) (λ x. refl) (λ x. refl) (λ x. refl) (λ x. refl) (λ x. same x) refl refl in
    is-links edges places (firsts ++ none ∷ []) free spare (ring_of edges places) (put l.stacks k []) l.frees s
  where
    same : (x : ℕ) → get_or (firsts ++ none ∷ []) x none ≡ get_or firsts x none
    same x = elim (cases_lt x (length firsts)) [
      | inl lt ↦ get_or_append_left firsts (none ∷ []) none x lt
      | inr le ↦ elim (cases_eq x (length firsts)) [
        | inl here ↦ get_or_push firsts none none x (sym here) ∙ sym (get_or_past firsts x none le)
        | inr ne ↦ get_or_past (firsts ++ none ∷ []) x none (omega (arith, length_push firsts none)) ∙ sym (get_or_past firsts x none le)
      ]
    ]

pub no-links : IsLinks [] [] [] none 0
no-links = record {
  stacks = λ t. [];
  frees = [];
  shape = record {
    room = omega arith;
    linked = λ p lt. absurd (omega arith);
    on = λ p lt e. absurd (omega arith);
    once = λ p lt. absurd (omega arith);
    pairs = λ p lt. absurd (omega arith);
    placed = λ e h. absurd (let parts = stands-parts 0 (place_at []) e h in let below = parts.0 in omega arith);
    tasked = λ e h. absurd (let parts = stands-parts 0 (place_at []) e h in let below = parts.0 in omega arith);
    stacked = λ t lt. absurd (omega arith);
    of = λ t lt e. absurd (omega arith);
    stacked_once = λ t lt. absurd (omega arith);
    freed = refl;
    is_free = λ e. sym (leads-past 0 (place_at []) none e (omega arith));
    free_once = refl;
    counted = refl;
  };
}

-- the free edges are at most all
pub spare-few : (edges : List Edge) (places : List Ends) (firsts : List ℕ) (free spare : ℕ) → IsLinks edges places firsts free spare → spare ≤ length edges
spare-few edges places firsts free spare l =
    let few = few-below l.frees (length edges) l.shape.free_once (λ y h. (leads-parts (length edges) (place_at edges) none y (sym (l.shape.is_free y) ∙ h)).0) in
    let c = l.shape.counted in omega arith

-- ---- walks

-- the edges below a place's row
row-below : (edges : List Edge) (places : List Ends) (firsts : List ℕ) (free spare p : ℕ) → IsLinks edges places firsts free spare → p < length places → (y : ℕ) → has (ring_of edges places p) y ≡ true → y < length edges
row-below edges places firsts free spare p l lp y h = (leads-parts (length edges) (place_at edges) p y (sym (l.shape.on p lp y) ∙ h)).0

pub first-told : (edges : List Edge) (places : List Ends) (firsts : List ℕ) (free spare p : ℕ) → IsLinks edges places firsts free spare → p < length places →
    (if nat_lt (next_at edges places (ring p)) (length edges) then Some (next_at edges places (ring p)) else None) ≡ first_edge (row (linked_of edges places firsts spare) p)
first-told edges places firsts free spare p l lp =
    next-first (next_at edges places) (previous_at edges places) (task_at edges) (ring p) (ring_of edges places p) (ring p) (length edges) (l.shape.linked p lp) (row-below edges places firsts free spare p l lp) (let room = l.shape.room in omega arith)
    ∙ ap first_edge (sym (row-is edges places firsts spare p lp))

-- an edge of a row
pub record InRow (edges : List Edge) (places : List Ends) (p e : ℕ) : Type 0 where
  pub known : p < length places
  pub member : has (ring_of edges places p) e ≡ true

pub in-row : (edges : List Edge) (places : List Ends) (firsts : List ℕ) (spare p e : ℕ) → has_edge (row (linked_of edges places firsts spare) p) e ≡ true → InRow edges places p e
in-row edges places firsts spare p e h = elim (cases_lt p (length places)) [
  | inl lt ↦ record { known = lt; member = sym (edge-pairs (task_at edges) (ring_of edges places p) e) ∙ ap (λ r. has_edge r e) (sym (row-is edges places firsts spare p lt)) ∙ h }
  | inr le ↦
      (let past : row (linked_of edges places firsts spare) p ≡ [] = get_or_past (linked_of edges places firsts spare).rows p [] (omega (arith, places-are edges places firsts spare)) in
      let fails = ap (λ r. has_edge r e) past in cc)
]

pub edge-below : (edges : List Edge) (places : List Ends) (firsts : List ℕ) (free spare e : ℕ) → IsLinks edges places firsts free spare → is_edge (linked_of edges places firsts spare) e ≡ true → e < length edges
edge-below edges places firsts free spare e l h =
    let found = any-found (λ r. has_edge r e) (λ q. map (pair (task_at edges)) (ring_of edges places q)) 0 (length places) h in
    row-below edges places firsts free spare found.at l (let b = found.below in omega arith) e (sym (edge-pairs (task_at edges) (ring_of edges places found.at) e) ∙ found.passes)

pub next-told : (edges : List Edge) (places : List Ends) (firsts : List ℕ) (free spare p e : ℕ) → IsLinks edges places firsts free spare → has_edge (row (linked_of edges places firsts spare) p) e ≡ true →
    (if nat_lt (next_at edges places e) (length edges) then Some (next_at edges places e) else None) ≡ edge_after (row (linked_of edges places firsts spare) p) e
next-told edges places firsts free spare p e l h =
    let at = in-row edges places firsts spare p e h in
    next-after (next_at edges places) (previous_at edges places) (task_at edges) (ring p) (ring_of edges places p) (ring p) (length edges) e (l.shape.linked p at.known) (l.shape.once p at.known)
    (row-below edges places firsts free spare p l at.known) (let room = l.shape.room in let lt = at.known in omega arith) at.member
    ∙ ap (λ r. edge_after r e) (sym (row-is edges places firsts spare p at.known))

pub rest-told : (edges : List Edge) (places : List Ends) (firsts : List ℕ) (free spare p e : ℕ) → IsLinks edges places firsts free spare → has_edge (row (linked_of edges places firsts spare) p) e ≡ true →
    rest_of (row (linked_of edges places firsts spare) p) (Some e)
    ≡ (e, task_of_edge (row (linked_of edges places firsts spare) p) e) ∷ rest_of (row (linked_of edges places firsts spare) p) (edge_after (row (linked_of edges places firsts spare) p) e)
rest-told edges places firsts free spare p e l h =
    let at = in-row edges places firsts spare p e h in
    subst (λ r. rest_of r (Some e) ≡ (e, task_of_edge r e) ∷ rest_of r (edge_after r e)) (sym (row-is edges places firsts spare p at.known)) (rest-step (task_at edges) (ring_of edges places p) e (l.shape.once p at.known) at.member)

pub task-is : (edges : List Edge) (places : List Ends) (firsts : List ℕ) (spare p e : ℕ) → has_edge (row (linked_of edges places firsts spare) p) e ≡ true → task_at edges e ≡ task_of_edge (row (linked_of edges places firsts spare) p) e
task-is edges places firsts spare p e h =
    let at = in-row edges places firsts spare p e h in
    sym (task-told (task_at edges) (ring_of edges places p) e at.member) ∙ ap (λ r. task_of_edge r e) (sym (row-is edges places firsts spare p at.known))

-- what stands beside the newest edge of a task in its ring
pub newest-next : (edges : List Edge) (places : List Ends) (firsts : List ℕ) (free spare t e : ℕ) (l : IsLinks edges places firsts free spare) → IsNewest edges places l.stacks t e →
    (next_at edges places e < length edges) ⊎ (none - next_at edges places e < length places)
newest-next edges places firsts free spare t e l new =
    let p = place_at edges e in
    ring-number edges places firsts free spare p (next_at edges places e) l new.place_known (next-in (next_at edges places) (previous_at edges places) (ring p) (ring_of edges places p) (ring p) e (l.shape.linked p new.place_known) new.member)

pub newest-previous : (edges : List Edge) (places : List Ends) (firsts : List ℕ) (free spare t e : ℕ) (l : IsLinks edges places firsts free spare) → IsNewest edges places l.stacks t e →
    (previous_at edges places e < length edges) ⊎ (none - previous_at edges places e < length places)
newest-previous edges places firsts free spare t e l new =
    let p = place_at edges e in
    ring-number edges places firsts free spare p (previous_at edges places e) l new.place_known (previous-in (next_at edges places) (previous_at edges places) (ring p) (ring_of edges places p) (ring p) e (l.shape.linked p new.place_known) new.member)

-- ---- pairs are distinct

pub distinct-rows : (edges : List Edge) (places : List Ends) (firsts : List ℕ) (free spare : ℕ) → IsLinks edges places firsts free spare → AreDistinct (linked_of edges places firsts spare)
distinct-rows edges places firsts free spare l = record {
  edges = λ p. at p (λ r. IsTrue (distinct (map (λ (e : Pair). e.0) r))) refl (λ lt. subst (λ xs. IsTrue (distinct xs)) (sym (numbers-of (task_at edges) (ring_of edges places p))) (l.shape.once p lt));
  tasks = λ p. at p (λ r. IsTrue (distinct (map (λ (e : Pair). e.1) r))) refl (λ lt. subst (λ xs. IsTrue (distinct xs)) (sym (tasks-of (task_at edges) (ring_of edges places p))) (l.shape.pairs p lt));
  apart = λ p q e h k.
      let a = in-row edges places firsts spare p e h in
      let b = in-row edges places firsts spare q e k in
      sym (leads-parts (length edges) (place_at edges) p e (sym (l.shape.on p a.known e) ∙ a.member)).1 ∙ (leads-parts (length edges) (place_at edges) q e (sym (l.shape.on q b.known e) ∙ b.member)).1;
}
  where
    at : (p : ℕ) (P : List Pair → Type 0) → P [] → (p < length places → P (map (pair (task_at edges)) (ring_of edges places p))) → P (row (linked_of edges places firsts spare) p)
    at p P none here = elim (cases_lt p (length places)) [
      | inl lt ↦ subst P (sym (row-is edges places firsts spare p lt)) (here lt)
      | inr le ↦ subst P (sym (get_or_past (linked_of edges places firsts spare).rows p [] (omega (arith, places-are edges places firsts spare)))) none
    ]
