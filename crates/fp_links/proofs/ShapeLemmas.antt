-- What holds of the fields of links, and that each step keeps it.
use Rattle.std.proofs.Common.{◌≡◌, ◌<◌, ◌≤◌, ◌+◌, ◌-◌, ◌^◌, ◌==◌, nat_lt, ◌||◌, ◌&&◌, ℕ, Bool, true, false, not, List, [], ◌∷◌, length, map, IsTrue, refl, sym, ap, subst, ◌∙◌, inl, inr, arith}
use Rattle.std.proofs.lemmas.Bool.{cases_eq, cases_lt, eq-eqb, ne_eqb, lt-ltb, ltb-true, le-ltb, and_right, and_left}
use Rattle.fp_links.specs.Rings.{put, IsLinked, IsStack, walk, has, distinct, without}
use Rattle.fp_links.specs.Fields.{IsShape, leads, stands, none, ring}
use Rattle.fp_links.proofs.RingLemmas.{and-parts, not-true, false-if, put-here, put-other, has-here, has-later, apart, distinct-head, distinct-tail, distinct-cons, has-without, without-distinct, few-below, linked-same, linked-insert, linked-remove, previous-in, next-in, walk-is, stack-same, map-put, map-distinct}

-- ---- where edges lead

leads-other : (n : ℕ) (place : ℕ → ℕ) (e v q y : ℕ) → (y ≡ e → ⊥) → leads n (put place e v) q y ≡ leads n place q y
leads-other n place e v q y ne = ap (λ z. nat_lt y n && (z == q)) (put-other place e v y ne)

leads-here : (n : ℕ) (place : ℕ → ℕ) (e v q y : ℕ) → y ≡ e → leads n (put place e v) q y ≡ (nat_lt y n && (v == q))
leads-here n place e v q y same = ap (λ z. nat_lt y n && (z == q)) (put-here place e v y same)

stands-other : (n : ℕ) (place : ℕ → ℕ) (e v y : ℕ) → (y ≡ e → ⊥) → stands n (put place e v) y ≡ stands n place y
stands-other n place e v y ne = ap (λ z. nat_lt y n && not (z == none)) (put-other place e v y ne)

stands-here : (n : ℕ) (place : ℕ → ℕ) (e v y : ℕ) → y ≡ e → stands n (put place e v) y ≡ (nat_lt y n && not (v == none))
stands-here n place e v y same = ap (λ z. nat_lt y n && not (z == none)) (put-here place e v y same)

pub leads-parts : (n : ℕ) (place : ℕ → ℕ) (q y : ℕ) → leads n place q y ≡ true → (y < n) × (place y ≡ q)
leads-parts n place q y h = let k = and-parts (nat_lt y n) (place y == q) h in (ltb-true y n k.0, same q (place y) k.1)
  where
    same : (a b : ℕ) → (b == a) ≡ true → b ≡ a
    same a b t = elim (cases_eq b a) [ inl e ↦ e | inr ne ↦ (let fails = ne_eqb b a ne in cc) ]

pub leads-from : (n : ℕ) (place : ℕ → ℕ) (q y : ℕ) → y < n → place y ≡ q → leads n place q y ≡ true
leads-from n place q y lt e = let a = lt-ltb y n lt in let b = eq-eqb (place y) q e in rw (a, b) refl

pub stands-parts : (n : ℕ) (place : ℕ → ℕ) (y : ℕ) → stands n place y ≡ true → (y < n) × (place y ≡ none → ⊥)
stands-parts n place y h =
    let k = and-parts (nat_lt y n) (not (place y == none)) h in
    (ltb-true y n k.0, λ e. let holds = eq-eqb (place y) none e in let fails = not-true (place y == none) k.1 in cc)

pub stands-from : (n : ℕ) (place : ℕ → ℕ) (y : ℕ) → y < n → (place y ≡ none → ⊥) → stands n place y ≡ true
stands-from n place y lt ne = let a = lt-ltb y n lt in let b = ne_eqb (place y) none ne in rw (a, b) refl

-- an edge that leads nowhere stands nowhere
free-stands : (n : ℕ) (place : ℕ → ℕ) (y : ℕ) → place y ≡ none → stands n place y ≡ false
free-stands n place y e = and_right (nat_lt y n) (not (place y == none)) (ap not (eq-eqb (place y) none e))

pub leads-elsewhere : (n : ℕ) (place : ℕ → ℕ) (p q y : ℕ) → place y ≡ p → (p ≡ q → ⊥) → leads n place q y ≡ false
leads-elsewhere n place p q y e ne = and_right (nat_lt y n) (place y == q) (ne_eqb (place y) q (λ k. ne (sym e ∙ k)))

pub leads-past : (n : ℕ) (place : ℕ → ℕ) (q y : ℕ) → n ≤ y → leads n place q y ≡ false
leads-past n place q y le = and_left (nat_lt y n) (place y == q) (le-ltb y n le)

-- ---- rings of different places

-- the place's own number isn't an edge's
pub ring-past : (n m p : ℕ) → n + m < 2 ^ 32 → p < m → n ≤ ring p
ring-past n m p room lt = omega arith

ring-apart : (m p q : ℕ) → m < 2 ^ 32 → p < m → q < m → ring p ≡ ring q → p ≡ q
ring-apart m p q room lp lq e = omega arith

section-of : (n : ℕ) (place : ℕ → ℕ) (p a : ℕ) (xs : List ℕ) → ((e : ℕ) → has xs e ≡ leads n place p e) → has (ring p ∷ xs) a ≡ true → (a ≡ ring p → ⊥) → (a < n) × (place a ≡ p)
section-of n place p a xs on h ne = leads-parts n place p a (sym (on a) ∙ sym (ap (λ b. b || has xs a) (ne_eqb (ring p) a (λ e. ne (sym e)))) ∙ h)

-- what stands in two rings is of one place
rings-apart : (n m : ℕ) (place : ℕ → ℕ) (p q a : ℕ) (xs ys : List ℕ) → n + m < 2 ^ 32 → p < m → q < m →
    ((e : ℕ) → has xs e ≡ leads n place p e) → ((e : ℕ) → has ys e ≡ leads n place q e) →
    has (ring p ∷ xs) a ≡ true → has (ring q ∷ ys) a ≡ true → p ≡ q
rings-apart n m place p q a xs ys room lp lq on at h k =
    elim (cases_eq a (ring p)) [
      | inl here ↦
          elim (cases_eq a (ring q)) [
            | inl there ↦ ring-apart m p q (omega arith) lp lq (sym here ∙ there)
            | inr fails ↦ absurd (let edge = section-of n place q a ys at k fails in let big = ring-past n m p room lp in omega arith)
          ]
      | inr fails ↦
          (let edge = section-of n place p a xs on h fails in
          elim (cases_eq a (ring q)) [
            | inl there ↦ absurd (let big = ring-past n m q room lq in omega arith)
            | inr other ↦ sym edge.1 ∙ (section-of n place q a ys at k other).1
          ])
    ]

-- ---- what every shape has

pub row-out : (n m p : ℕ) (place : ℕ → ℕ) (xs : List ℕ) → n + m < 2 ^ 32 → p < m → ((e : ℕ) → has xs e ≡ leads n place p e) → has xs (ring p) ≡ false
row-out n m p place xs room lt on = on (ring p) ∙ leads-past n place p (ring p) (ring-past n m p room lt)

pub row-few : (n p : ℕ) (place : ℕ → ℕ) (xs : List ℕ) → IsTrue (distinct xs) → ((e : ℕ) → has xs e ≡ leads n place p e) → length xs ≤ n
row-few n p place xs d on = few-below xs n d (λ y h. (leads-parts n place p y (sym (on y) ∙ h)).0)

-- the rows are what walks over the rings give
pub walks : {n m k : ℕ} {next previous place task behind first : ℕ → ℕ} {free spare : ℕ} {rows stacks : ℕ → List ℕ} {frees : List ℕ} →
    IsShape n m k next previous place task behind first free spare rows stacks frees → (p : ℕ) → p < m → walk next (ring p) n (ring p) ≡ rows p
walks {n} {m} {k} {next} {previous} {place} {task} {behind} {first} {free} {spare} {rows} {stacks} {frees} s p lt =
    walk-is next previous (ring p) (rows p) (ring p) n (s.linked p lt) (row-out n m p place (rows p) s.room lt (s.on p lt)) (row-few n p place (rows p) (s.once p lt) (s.on p lt))

-- only the rows of known places are looked at
pub same-rows : {n m k : ℕ} {next previous place task behind first : ℕ → ℕ} {free spare : ℕ} {rows stacks : ℕ → List ℕ} {frees : List ℕ} (lists : ℕ → List ℕ) →
    IsShape n m k next previous place task behind first free spare rows stacks frees → ((p : ℕ) → p < m → lists p ≡ rows p) →
    IsShape n m k next previous place task behind first free spare lists stacks frees
same-rows {n} {m} {k} {next} {previous} {place} {task} {behind} {first} {free} {spare} {rows} {stacks} {frees} lists s same = record {
  room = s.room;
  linked = λ p lt. subst (λ xs. IsLinked next previous (ring p) xs (ring p)) (sym (same p lt)) (s.linked p lt);
  on = λ p lt e. ap (λ xs. has xs e) (same p lt) ∙ s.on p lt e;
  once = λ p lt. subst (λ xs. IsTrue (distinct xs)) (sym (same p lt)) (s.once p lt);
  pairs = λ p lt. subst (λ xs. IsTrue (distinct (map task xs))) (sym (same p lt)) (s.pairs p lt);
  placed = s.placed;
  tasked = s.tasked;
  stacked = s.stacked;
  of = s.of;
  stacked_once = s.stacked_once;
  freed = s.freed;
  is_free = s.is_free;
  free_once = s.free_once;
  counted = s.counted;
}

-- ---- a pair is linked

pub shape-link : (n m k : ℕ) (next previous place task behind first : ℕ → ℕ) (e spare : ℕ) (rows stacks : ℕ → List ℕ) (fs : List ℕ) (t p : ℕ) →
    IsShape n m k next previous place task behind first e spare rows stacks (e ∷ fs) → t < k → p < m → has (map task (rows p)) t ≡ false →
    IsShape n m k (put (put next e (next (ring p))) (ring p) e) (put (put previous e (ring p)) (next (ring p)) e) (put place e p) (put task e t) (put behind e (first t)) (put first t e)
    (behind e) (spare - 1) (put rows p (e ∷ rows p)) (put stacks t (e ∷ stacks t)) fs
shape-link n m k next previous place task behind first e spare rows stacks fs t p s task_known place_known absent = record {
  room = s.room;
  linked = linked_new;
  on = on_new;
  once = λ q lt. chosen (λ xs. IsTrue (distinct xs)) rows p (e ∷ rows p) q (λ _. distinct-cons e (rows p) (fresh p place_known) (s.once p place_known)) (λ _. s.once q lt);
  pairs = pairs_new;
  placed = λ y h. elim (cases_eq y e) [
    | inl same ↦ subst (λ z. z < m) (sym (put-here place e p y same)) place_known
    | inr ne ↦ subst (λ z. z < m) (sym (put-other place e p y ne)) (s.placed y (sym (stands-other n place e p y ne) ∙ h))
  ];
  tasked = λ y h. elim (cases_eq y e) [
    | inl same ↦ subst (λ z. z < k) (sym (put-here task e t y same)) task_known
    | inr ne ↦ subst (λ z. z < k) (sym (put-other task e t y ne)) (s.tasked y (sym (stands-other n place e p y ne) ∙ h))
  ];
  stacked = stacked_new;
  of = of_new;
  stacked_once = λ u lt. chosen (λ xs. IsTrue (distinct xs)) stacks t (e ∷ stacks t) u (λ _. distinct-cons e (stacks t) (unstacked t task_known) (s.stacked_once t task_known)) (λ _. s.stacked_once u lt);
  freed = stack-same behind (put behind e (first t)) none (behind e) fs (s.freed.1) (λ y h. put-other behind e (first t) y (apart fs e y (distinct-head e fs s.free_once) h));
  is_free = free_new;
  free_once = distinct-tail e fs s.free_once;
  counted = omega (arith, s.counted);
}
  where
    chosen : {A : Type 0} (P : A → Type 0) (f : ℕ → A) (x : ℕ) (v : A) (y : ℕ) → (y ≡ x → P v) → ((y ≡ x → ⊥) → P (f y)) → P (put f x v y)
    chosen P f x v y here other = elim (cases_eq y x) [
      | inl same ↦ subst P (sym (put-here f x v y same)) (here same)
      | inr ne ↦ subst P (sym (put-other f x v y ne)) (other ne)
    ]

    known : (e < n) × (place e ≡ none)
    known = leads-parts n place none e (sym (s.is_free e) ∙ has-here e fs)

    no-place : p ≡ none → ⊥
    no-place same = let room = s.room in let inside = known.0 in omega arith

    fresh : (q : ℕ) → q < m → has (rows q) e ≡ false
    fresh q lt = s.on q lt e ∙ leads-elsewhere n place none q e known.1 (λ same. let room = s.room in let inside = known.0 in omega arith)

    unstacked : (u : ℕ) → u < k → has (stacks u) e ≡ false
    unstacked u lt = s.of u lt e ∙ and_left (stands n place e) (task e == u) (free-stands n place e known.1)

    outside : (q : ℕ) → q < m → has (ring q ∷ rows q) e ≡ false
    outside q lt = let far = ring-past n m q s.room lt in let inside = known.0 in let fails : (ring q == e) ≡ false = ne_eqb (ring q) e (λ same. omega arith) in ap (λ b. b || has (rows q) e) fails ∙ fresh q lt

    first-in : (xs : List ℕ) → IsLinked next previous (ring p) xs (ring p) → has (ring p ∷ xs) (next (ring p)) ≡ true
    first-in [] l = subst (λ z. has (ring p ∷ []) z ≡ true) (sym l.0) (has-here (ring p) [])
    first-in (x ∷ xs) l = subst (λ z. has (ring p ∷ x ∷ xs) z ≡ true) (sym l.0) (has-later (ring p) x (x ∷ xs) (has-here x xs))

    head : has (ring p ∷ rows p) (next (ring p)) ≡ true
    head = first-in (rows p) (s.linked p place_known)

    linked_new : (q : ℕ) → q < m → IsLinked (put (put next e (next (ring p))) (ring p) e) (put (put previous e (ring p)) (next (ring p)) e) (ring q) (put rows p (e ∷ rows p) q) (ring q)
    linked_new q lt = elim (cases_eq q p) [
      | inl same ↦
          (let made = linked-insert next previous (ring p) (rows p) e (s.linked p place_known) (row-out n m p place (rows p) s.room place_known (s.on p place_known)) (s.once p place_known) (outside p place_known) in
          let here = put-here rows p (e ∷ rows p) q same in
          rw (here, same) made)
      | inr ne ↦
          (let here = put-other rows p (e ∷ rows p) q ne in
          let kept = linked-same next previous (put (put next e (next (ring p))) (ring p) e) (put (put previous e (ring p)) (next (ring p)) e) (ring q) (rows q) (ring q) (s.linked q lt)
          (λ y h. put-other (put next e (next (ring p))) (ring p) e y (λ a. ne (rings-apart n m place q p y (rows q) (rows p) s.room lt place_known (s.on q lt) (s.on p place_known) h (subst (λ z. has (ring p ∷ rows p) z ≡ true) (sym a) (has-here (ring p) (rows p)))))
          ∙ put-other next e (next (ring p)) y (apart (ring q ∷ rows q) e y (outside q lt) h))
          (λ y h. put-other (put previous e (ring p)) (next (ring p)) e y (λ a. ne (rings-apart n m place q p y (rows q) (rows p) s.room lt place_known (s.on q lt) (s.on p place_known) h (subst (λ z. has (ring p ∷ rows p) z ≡ true) (sym a) head)))
          ∙ put-other previous e (ring p) y (apart (ring q ∷ rows q) e y (outside q lt) h)) in
          rw here kept)
    ]

    on_new : (q : ℕ) → q < m → (y : ℕ) → has (put rows p (e ∷ rows p) q) y ≡ leads n (put place e p) q y
    on_new q lt y = elim (cases_eq q p) [
      | inl same ↦
          ap (λ xs. has xs y) (put-here rows p (e ∷ rows p) q same)
          ∙ elim (cases_eq y e) [
            | inl own ↦ ap (λ b. b || has (rows p) y) (eq-eqb e y (sym own)) ∙ sym (leads-here n place e p q y own ∙ (let a = lt-ltb y n (subst (λ z. z < n) (sym own) known.0) in let b = eq-eqb p q (sym same) in rw (a, b) refl))
            | inr ne ↦ ap (λ b. b || has (rows p) y) (ne_eqb e y (λ a. ne (sym a))) ∙ s.on p place_known y ∙ ap (λ z. leads n place z y) (sym same) ∙ sym (leads-other n place e p q y ne)
          ]
      | inr fails ↦
          ap (λ xs. has xs y) (put-other rows p (e ∷ rows p) q fails)
          ∙ elim (cases_eq y e) [
            | inl own ↦ ap (has (rows q)) own ∙ fresh q lt ∙ sym (leads-here n place e p q y own ∙ and_right (nat_lt y n) (p == q) (ne_eqb p q (λ a. fails (sym a))))
            | inr ne ↦ s.on q lt y ∙ sym (leads-other n place e p q y ne)
          ]
    ]

    pairs_new : (q : ℕ) → q < m → IsTrue (distinct (map (put task e t) (put rows p (e ∷ rows p) q)))
    pairs_new q lt = chosen (λ xs. IsTrue (distinct (map (put task e t) xs))) rows p (e ∷ rows p) q
        (λ _. let own : put task e t e ≡ t = put-here task e t e refl in
        let others : map (put task e t) (rows p) ≡ map task (rows p) = map-put task e t (rows p) (fresh p place_known) in
        rw (own, others) (distinct-cons t (map task (rows p)) absent (s.pairs p place_known)))
        (λ _. let others : map (put task e t) (rows q) ≡ map task (rows q) = map-put task e t (rows q) (fresh q lt) in rw others (s.pairs q lt))

    stacked_new : (u : ℕ) → u < k → IsStack (put behind e (first t)) none (put first t e u) (put stacks t (e ∷ stacks t) u)
    stacked_new u lt = elim (cases_eq u t) [
      | inl same ↦
          (let here = put-here stacks t (e ∷ stacks t) u same in
          let start = put-here first t e u same in
          let after = put-here behind e (first t) e refl in
          let kept = stack-same behind (put behind e (first t)) none (first t) (stacks t) (s.stacked t task_known) (λ y h. put-other behind e (first t) y (apart (stacks t) e y (unstacked t task_known) h)) in
          rw (here, start) (refl, rw after kept))
      | inr ne ↦
          (let here = put-other stacks t (e ∷ stacks t) u ne in
          let start = put-other first t e u ne in
          let kept = stack-same behind (put behind e (first t)) none (first u) (stacks u) (s.stacked u lt) (λ y h. put-other behind e (first t) y (apart (stacks u) e y (unstacked u lt) h)) in
          rw (here, start) kept)
    ]

    of_new : (u : ℕ) → u < k → (y : ℕ) → has (put stacks t (e ∷ stacks t) u) y ≡ (stands n (put place e p) y && (put task e t y == u))
    of_new u lt y = elim (cases_eq u t) [
      | inl same ↦
          ap (λ xs. has xs y) (put-here stacks t (e ∷ stacks t) u same)
          ∙ elim (cases_eq y e) [
            | inl own ↦
                ap (λ b. b || has (stacks t) y) (eq-eqb e y (sym own))
                ∙ sym (let a = stands-here n place e p y own in let b = lt-ltb y n (subst (λ z. z < n) (sym own) known.0) in let c : not (p == none) ≡ true = ap not (ne_eqb p none no-place) in
                let d = put-here task e t y own in let f = eq-eqb t u (sym same) in rw (a, b, c, d, f) refl)
            | inr ne ↦
                ap (λ b. b || has (stacks t) y) (ne_eqb e y (λ a. ne (sym a))) ∙ s.of t task_known y ∙ ap (λ z. stands n place y && (task y == z)) (sym same)
                ∙ sym (let a = stands-other n place e p y ne in let b = put-other task e t y ne in rw (a, b) refl)
          ]
      | inr fails ↦
          ap (λ xs. has xs y) (put-other stacks t (e ∷ stacks t) u fails)
          ∙ elim (cases_eq y e) [
            | inl own ↦ ap (has (stacks u)) own ∙ unstacked u lt ∙ sym (and_right (stands n (put place e p) y) (put task e t y == u) (ne_eqb (put task e t y) u (λ a. fails (sym a ∙ put-here task e t y own))))
            | inr ne ↦ s.of u lt y ∙ sym (let a = stands-other n place e p y ne in let b = put-other task e t y ne in rw (a, b) refl)
          ]
    ]

    free_new : (y : ℕ) → has fs y ≡ leads n (put place e p) none y
    free_new y = elim (cases_eq y e) [
      | inl own ↦ ap (has fs) own ∙ distinct-head e fs s.free_once ∙ sym (leads-here n place e p none y own ∙ and_right (nat_lt y n) (p == none) (ne_eqb p none no-place))
      | inr ne ↦ sym (ap (λ b. b || has fs y) (ne_eqb e y (λ a. ne (sym a)))) ∙ s.is_free y ∙ sym (leads-other n place e p none y ne)
    ]

-- ---- the newest pair of a task is dropped

pub shape-drop : (n m k : ℕ) (next previous place task behind first : ℕ → ℕ) (free spare : ℕ) (rows stacks : ℕ → List ℕ) (frees : List ℕ) (t e : ℕ) (ss : List ℕ) →
    IsShape n m k next previous place task behind first free spare rows stacks frees → t < k → stacks t ≡ e ∷ ss →
    IsShape n m k (put next (previous e) (next e)) (put previous (next e) (previous e)) (put place e none) task (put behind e free) (put first t (behind e))
    e (spare + 1) (put rows (place e) (without e (rows (place e)))) (put stacks t ss) (e ∷ frees)
shape-drop n m k next previous place task behind first free spare rows stacks frees t e ss s task_known newest = record {
  room = s.room;
  linked = linked_new;
  on = on_new;
  once = λ q lt. chosen (λ xs. IsTrue (distinct xs)) rows p (without e (rows p)) q (λ _. without-distinct e (rows p) (s.once p inside)) (λ _. s.once q lt);
  pairs = λ q lt. chosen (λ xs. IsTrue (distinct (map task xs))) rows p (without e (rows p)) q (λ _. map-distinct task e (rows p) (s.pairs p inside)) (λ _. s.pairs q lt);
  placed = λ y h. elim (cases_eq y e) [
    | inl same ↦ absurd ((stands-parts n (put place e none) y h).1 (put-here place e none y same))
    | inr ne ↦ subst (λ z. z < m) (sym (put-other place e none y ne)) (s.placed y (sym (stands-other n place e none y ne) ∙ h))
  ];
  tasked = λ y h. elim (cases_eq y e) [
    | inl same ↦ absurd ((stands-parts n (put place e none) y h).1 (put-here place e none y same))
    | inr ne ↦ s.tasked y (sym (stands-other n place e none y ne) ∙ h)
  ];
  stacked = stacked_new;
  of = of_new;
  stacked_once = λ u lt. chosen (λ xs. IsTrue (distinct xs)) stacks t ss u (λ _. distinct-tail e ss once_all) (λ _. s.stacked_once u lt);
  freed = (
    refl,
    subst (λ z. IsStack (put behind e free) none z frees) (sym (put-here behind e free e refl))
        (stack-same behind (put behind e free) none free frees s.freed (λ y h. put-other behind e free y (apart frees e y unfree h))),
  );
  is_free = free_new;
  free_once = distinct-cons e frees unfree s.free_once;
  counted = omega (arith, s.counted);
}
  where
    chosen : {A : Type 0} (P : A → Type 0) (f : ℕ → A) (x : ℕ) (v : A) (y : ℕ) → (y ≡ x → P v) → ((y ≡ x → ⊥) → P (f y)) → P (put f x v y)
    chosen P f x v y here other = elim (cases_eq y x) [
      | inl same ↦ subst P (sym (put-here f x v y same)) (here same)
      | inr ne ↦ subst P (sym (put-other f x v y ne)) (other ne)
    ]

    p : ℕ
    p = place e

    known : (stands n place e ≡ true) × ((task e == t) ≡ true)
    known = and-parts (stands n place e) (task e == t) (sym (s.of t task_known e) ∙ ap (λ xs. has xs e) newest ∙ has-here e ss)

    inside : p < m
    inside = s.placed e known.0

    edge : (e < n) × (place e ≡ none → ⊥)
    edge = stands-parts n place e known.0

    of_task : task e ≡ t
    of_task = elim (cases_eq (task e) t) [ inl same ↦ same | inr ne ↦ (let fails = ne_eqb (task e) t ne in let holds = known.1 in cc) ]

    once_all : IsTrue (distinct (e ∷ ss))
    once_all = subst (λ xs. IsTrue (distinct xs)) newest (s.stacked_once t task_known)

    member : has (rows p) e ≡ true
    member = s.on p inside e ∙ leads-from n place p e edge.0 refl

    unfree : has frees e ≡ false
    unfree = s.is_free e ∙ leads-elsewhere n place p none e refl edge.1

    before : has (ring p ∷ rows p) (previous e) ≡ true
    before = previous-in next previous (ring p) (rows p) (ring p) e (s.linked p inside) member

    after : has (ring p ∷ rows p) (next e) ≡ true
    after = next-in next previous (ring p) (rows p) (ring p) e (s.linked p inside) member

    linked_new : (q : ℕ) → q < m → IsLinked (put next (previous e) (next e)) (put previous (next e) (previous e)) (ring q) (put rows p (without e (rows p)) q) (ring q)
    linked_new q lt = elim (cases_eq q p) [
      | inl same ↦
          (let out = row-out n m p place (rows p) s.room inside (s.on p inside) in
          let made = linked-remove next previous (ring p) (rows p) (ring p) e (s.linked p inside) out (s.once p inside) out member in
          let here = put-here rows p (without e (rows p)) q same in
          subst (λ xs. IsLinked (put next (previous e) (next e)) (put previous (next e) (previous e)) (ring q) xs (ring q)) (sym here)
          (subst (λ z. IsLinked (put next (previous e) (next e)) (put previous (next e) (previous e)) (ring z) (without e (rows p)) (ring z)) (sym same) made))
      | inr ne ↦
          (let here = put-other rows p (without e (rows p)) q ne in
          let kept = linked-same next previous (put next (previous e) (next e)) (put previous (next e) (previous e)) (ring q) (rows q) (ring q) (s.linked q lt)
          (λ y h. put-other next (previous e) (next e) y (λ a. ne (rings-apart n m place q p y (rows q) (rows p) s.room lt inside (s.on q lt) (s.on p inside) h (subst (λ z. has (ring p ∷ rows p) z ≡ true) (sym a) before))))
          (λ y h. put-other previous (next e) (previous e) y (λ a. ne (rings-apart n m place q p y (rows q) (rows p) s.room lt inside (s.on q lt) (s.on p inside) h (subst (λ z. has (ring p ∷ rows p) z ≡ true) (sym a) after)))) in
          subst (λ xs. IsLinked (put next (previous e) (next e)) (put previous (next e) (previous e)) (ring q) xs (ring q)) (sym here) kept)
    ]

    and-true : (b : Bool) → (b && true) ≡ b
    and-true true = refl
    and-true false = refl

    on_new : (q : ℕ) → q < m → (y : ℕ) → has (put rows p (without e (rows p)) q) y ≡ leads n (put place e none) q y
    on_new q lt y = elim (cases_eq q p) [
      | inl same ↦
          ap (λ xs. has xs y) (put-here rows p (without e (rows p)) q same) ∙ has-without e y (rows p)
          ∙ elim (cases_eq y e) [
            | inl own ↦
                and_right (has (rows p) y) (not (y == e)) (ap not (eq-eqb y e own))
                ∙ sym (leads-here n place e none q y own ∙ and_right (nat_lt y n) (none == q) (ne_eqb none q (λ a. let room = s.room in let less = edge.0 in omega arith)))
            | inr ne ↦ (let holds : not (y == e) ≡ true = ap not (ne_eqb y e ne) in rw holds (and-true (has (rows p) y))) ∙ s.on p inside y ∙ ap (λ z. leads n place z y) (sym same) ∙ sym (leads-other n place e none q y ne)
          ]
      | inr fails ↦
          ap (λ xs. has xs y) (put-other rows p (without e (rows p)) q fails)
          ∙ elim (cases_eq y e) [
            | inl own ↦
                ap (has (rows q)) own ∙ s.on q lt e ∙ leads-elsewhere n place p q e refl (λ a. fails (sym a))
                ∙ sym (leads-here n place e none q y own ∙ and_right (nat_lt y n) (none == q) (ne_eqb none q (λ a. let room = s.room in let less = edge.0 in omega arith)))
            | inr ne ↦ s.on q lt y ∙ sym (leads-other n place e none q y ne)
          ]
    ]

    stacked_new : (u : ℕ) → u < k → IsStack (put behind e free) none (put first t (behind e) u) (put stacks t ss u)
    stacked_new u lt = elim (cases_eq u t) [
      | inl same ↦
          (let here = put-here stacks t ss u same in
          let start = put-here first t (behind e) u same in
          let old : IsStack behind none (first t) (e ∷ ss) = subst (λ xs. IsStack behind none (first t) xs) newest (s.stacked t task_known) in
          let kept = stack-same behind (put behind e free) none (behind e) ss old.1 (λ y h. put-other behind e free y (apart ss e y (distinct-head e ss once_all) h)) in
          rw (here, start) kept)
      | inr ne ↦
          (let here = put-other stacks t ss u ne in
          let start = put-other first t (behind e) u ne in
          let fails : has (stacks u) e ≡ false = s.of u lt e ∙ and_right (stands n place e) (task e == u) (ne_eqb (task e) u (λ a. ne (sym a ∙ of_task))) in
          let kept = stack-same behind (put behind e free) none (first u) (stacks u) (s.stacked u lt) (λ y h. put-other behind e free y (apart (stacks u) e y fails h)) in
          rw (here, start) kept)
    ]

    of_new : (u : ℕ) → u < k → (y : ℕ) → has (put stacks t ss u) y ≡ (stands n (put place e none) y && (task y == u))
    of_new u lt y = elim (cases_eq y e) [
      | inl own ↦
          elim (cases_eq u t) [
            | inl same ↦ ap (λ xs. has xs y) (put-here stacks t ss u same) ∙ ap (has ss) own ∙ distinct-head e ss once_all
            | inr fails ↦ ap (λ xs. has xs y) (put-other stacks t ss u fails) ∙ ap (has (stacks u)) own ∙ s.of u lt e ∙ and_right (stands n place e) (task e == u) (ne_eqb (task e) u (λ a. fails (sym a ∙ of_task)))
          ]
          ∙ sym (and_left (stands n (put place e none) y) (task y == u) (free-stands n (put place e none) y (put-here place e none y own)))
      | inr ne ↦
          elim (cases_eq u t) [
            | inl same ↦
                ap (λ xs. has xs y) (put-here stacks t ss u same) ∙ sym (ap (λ b. b || has ss y) (ne_eqb e y (λ a. ne (sym a)))) ∙ sym (ap (λ xs. has xs y) newest) ∙ s.of t task_known y
                ∙ ap (λ z. stands n place y && (task y == z)) (sym same)
            | inr fails ↦ ap (λ xs. has xs y) (put-other stacks t ss u fails) ∙ s.of u lt y
          ]
          ∙ sym (ap (λ b. b && (task y == u)) (stands-other n place e none y ne))
    ]

    free_new : (y : ℕ) → has (e ∷ frees) y ≡ leads n (put place e none) none y
    free_new y = elim (cases_eq y e) [
      | inl own ↦ ap (λ b. b || has frees y) (eq-eqb e y (sym own)) ∙ sym (leads-from n (put place e none) none y (subst (λ z. z < n) (sym own) edge.0) (put-here place e none y own))
      | inr ne ↦ ap (λ b. b || has frees y) (ne_eqb e y (λ a. ne (sym a))) ∙ s.is_free y ∙ sym (leads-other n place e none none y ne)
    ]

-- ---- more edges, places and tasks

pub shape-edge : (n m k : ℕ) (next previous place task behind first : ℕ → ℕ) (free spare a b c : ℕ) (rows stacks : ℕ → List ℕ) (frees : List ℕ) →
    IsShape n m k next previous place task behind first free spare rows stacks frees → n + 1 + m < 2 ^ 32 →
    IsShape (n + 1) m k (put next n a) (put previous n b) (put place n none) (put task n c) (put behind n free) first n (spare + 1) rows stacks (n ∷ frees)
shape-edge n m k next previous place task behind first free spare a b c rows stacks frees s room = record {
  room = room;
  linked = λ q lt. linked-same next previous (put next n a) (put previous n b) (ring q) (rows q) (ring q) (s.linked q lt)
      (λ y h. put-other next n a y (apart (ring q ∷ rows q) n y (outside q lt) h)) (λ y h. put-other previous n b y (apart (ring q ∷ rows q) n y (outside q lt) h));
  on = λ q lt y. s.on q lt y ∙ more_leads q y (λ e. let big = lt in omega arith);
  once = s.once;
  pairs = λ q lt. let same : map (put task n c) (rows q) ≡ map task (rows q) = map-put task n c (rows q) (s.on q lt n ∙ leads-past n place q n (omega arith)) in rw same (s.pairs q lt);
  placed = λ y h. let k = old y h in subst (λ z. z < m) (sym (put-other place n none y k.0)) (s.placed y k.1);
  tasked = λ y h. let j = old y h in subst (λ z. z < k) (sym (put-other task n c y j.0)) (s.tasked y j.1);
  stacked = λ u lt. stack-same behind (put behind n free) none (first u) (stacks u) (s.stacked u lt) (λ y h. put-other behind n free y (apart (stacks u) n y (s.of u lt n ∙ and_left (stands n place n) (task n == u) (and_left (nat_lt n n) (not (place n == none)) (le-ltb n n (omega arith)))) h));
  of = λ u lt y. s.of u lt y ∙ more_of u y;
  stacked_once = s.stacked_once;
  freed = (refl, subst (λ z. IsStack (put behind n free) none z frees) (sym (put-here behind n free n refl)) (stack-same behind (put behind n free) none free frees s.freed (λ y h. put-other behind n free y (apart frees n y unfree h))));
  is_free = free_new;
  free_once = distinct-cons n frees unfree s.free_once;
  counted = omega (arith, s.counted);
}
  where
    outside : (q : ℕ) → q < m → has (ring q ∷ rows q) n ≡ false
    outside q lt = let fails : (ring q == n) ≡ false = ne_eqb (ring q) n (λ same. omega arith) in ap (λ b. b || has (rows q) n) fails ∙ s.on q lt n ∙ leads-past n place q n (omega arith)

    unfree : has frees n ≡ false
    unfree = s.is_free n ∙ leads-past n place none n (omega arith)

    wider : (y : ℕ) → (y ≡ n → ⊥) → nat_lt y n ≡ nat_lt y (n + 1)
    wider y ne = elim (cases_lt y n) [
      | inl lt ↦ lt-ltb y n lt ∙ sym (lt-ltb y (n + 1) (omega arith))
      | inr le ↦ le-ltb y n le ∙ sym (le-ltb y (n + 1) (omega arith))
    ]

    more_leads : (q y : ℕ) → (none ≡ q → ⊥) → leads n place q y ≡ leads (n + 1) (put place n none) q y
    more_leads q y ne = elim (cases_eq y n) [
      | inl own ↦ leads-past n place q y (omega arith) ∙ sym (leads-here (n + 1) place n none q y own ∙ and_right (nat_lt y (n + 1)) (none == q) (ne_eqb none q ne))
      | inr other ↦ ap (λ b. b && (place y == q)) (wider y other) ∙ sym (leads-other (n + 1) place n none q y other)
    ]

    old : (y : ℕ) → stands (n + 1) (put place n none) y ≡ true → (y ≡ n → ⊥) × (stands n place y ≡ true)
    old y h =
        let parts = stands-parts (n + 1) (put place n none) y h in
        let ne : y ≡ n → ⊥ = λ own. parts.1 (put-here place n none y own) in
        (ne, ap (λ b. b && not (place y == none)) (wider y ne) ∙ sym (stands-other (n + 1) place n none y ne) ∙ h)

    more_of : (u y : ℕ) → (stands n place y && (task y == u)) ≡ (stands (n + 1) (put place n none) y && (put task n c y == u))
    more_of u y = elim (cases_eq y n) [
      | inl own ↦
          and_left (stands n place y) (task y == u) (and_left (nat_lt y n) (not (place y == none)) (le-ltb y n (omega arith)))
          ∙ sym (and_left (stands (n + 1) (put place n none) y) (put task n c y == u) (free-stands (n + 1) (put place n none) y (put-here place n none y own)))
      | inr ne ↦ (let w = wider y ne in let p = put-other place n none y ne in let t = put-other task n c y ne in rw (w, p, t) refl)
    ]

    free_new : (y : ℕ) → has (n ∷ frees) y ≡ leads (n + 1) (put place n none) none y
    free_new y = elim (cases_eq y n) [
      | inl own ↦ ap (λ b. b || has frees y) (eq-eqb n y (sym own)) ∙ sym (leads-from (n + 1) (put place n none) none y (omega arith) (put-here place n none y own))
      | inr ne ↦
          ap (λ b. b || has frees y) (ne_eqb n y (λ a. ne (sym a))) ∙ s.is_free y ∙ ap (λ b. b && (place y == none)) (wider y ne) ∙ sym (leads-other (n + 1) place n none none y ne)
    ]

pub shape-place : (n m k : ℕ) (next previous place task behind first : ℕ → ℕ) (free spare : ℕ) (rows stacks : ℕ → List ℕ) (frees : List ℕ) →
    IsShape n m k next previous place task behind first free spare rows stacks frees → n + m + 1 < 2 ^ 32 →
    IsShape n (m + 1) k (put next (ring m) (ring m)) (put previous (ring m) (ring m)) place task behind first free spare (put rows m []) stacks frees
shape-place n m k next previous place task behind first free spare rows stacks frees s room = record {
  room = omega arith;
  linked = λ q lt. elim (cases_eq q m) [
    | inl same ↦ (let here = put-here rows m [] q same in let a = put-here next (ring m) (ring m) (ring q) (ap ring same) in let b = put-here previous (ring m) (ring m) (ring q) (ap ring same) in let c = ap ring same in rw here (a ∙ sym c, b ∙ sym c))
    | inr ne ↦
        (let less : q < m = omega arith in let here = put-other rows m [] q ne in
        let kept = linked-same next previous (put next (ring m) (ring m)) (put previous (ring m) (ring m)) (ring q) (rows q) (ring q) (s.linked q less)
        (λ y h. put-other next (ring m) (ring m) y (apart (ring q ∷ rows q) (ring m) y (outside q less) h)) (λ y h. put-other previous (ring m) (ring m) y (apart (ring q ∷ rows q) (ring m) y (outside q less) h)) in
        rw here kept)
  ];
  on = λ q lt y. elim (cases_eq q m) [
    | inl same ↦ ap (λ xs. has xs y) (put-here rows m [] q same) ∙ sym (nowhere q y same)
    | inr ne ↦ ap (λ xs. has xs y) (put-other rows m [] q ne) ∙ s.on q (omega arith) y
  ];
  once = λ q lt. elim (cases_eq q m) [
    | inl same ↦ (let here = put-here rows m [] q same in rw here refl)
    | inr ne ↦ (let here = put-other rows m [] q ne in rw here (s.once q (omega arith)))
  ];
  pairs = λ q lt. elim (cases_eq q m) [
    | inl same ↦ (let here = put-here rows m [] q same in rw here refl)
    | inr ne ↦ (let here = put-other rows m [] q ne in rw here (s.pairs q (omega arith)))
  ];
  placed = λ y h. omega (arith, s.placed y h);
  tasked = s.tasked;
  stacked = s.stacked;
  of = s.of;
  stacked_once = s.stacked_once;
  freed = s.freed;
  is_free = s.is_free;
  free_once = s.free_once;
  counted = s.counted;
}
  where
    outside : (q : ℕ) → q < m → has (ring q ∷ rows q) (ring m) ≡ false
    outside q lt = let fails : (ring q == ring m) ≡ false = ne_eqb (ring q) (ring m) (λ same. omega arith) in ap (λ b. b || has (rows q) (ring m)) fails ∙ s.on q lt (ring m) ∙ leads-past n place q (ring m) (omega arith)

    nowhere : (q y : ℕ) → q ≡ m → leads n place q y ≡ false
    nowhere q y same = false-if (leads n place q y) (λ h. let at = leads-parts n place q y h in let inside = s.placed y (stands-from n place y at.0 (λ e. let f = at.1 in omega arith)) in let f = at.1 in omega arith)

pub shape-task : (n m k : ℕ) (next previous place task behind first : ℕ → ℕ) (free spare : ℕ) (rows stacks : ℕ → List ℕ) (frees : List ℕ) →
    IsShape n m k next previous place task behind first free spare rows stacks frees → first k ≡ none →
    IsShape n m (k + 1) next previous place task behind first free spare rows (put stacks k []) frees
shape-task n m k next previous place task behind first free spare rows stacks frees s start = record {
  room = s.room;
  linked = s.linked;
  on = s.on;
  once = s.once;
  pairs = s.pairs;
  placed = s.placed;
  tasked = λ y h. omega (arith, s.tasked y h);
  stacked = λ u lt. elim (cases_eq u k) [
    | inl same ↦ (let here = put-here stacks k [] u same in let begin = ap first same ∙ start in rw here begin)
    | inr ne ↦ (let here = put-other stacks k [] u ne in rw here (s.stacked u (omega arith)))
  ];
  of = λ u lt y. elim (cases_eq u k) [
    | inl same ↦ ap (λ xs. has xs y) (put-here stacks k [] u same) ∙ sym (nowhere u y same)
    | inr ne ↦ ap (λ xs. has xs y) (put-other stacks k [] u ne) ∙ s.of u (omega arith) y
  ];
  stacked_once = λ u lt. elim (cases_eq u k) [
    | inl same ↦ (let here = put-here stacks k [] u same in rw here refl)
    | inr ne ↦ (let here = put-other stacks k [] u ne in rw here (s.stacked_once u (omega arith)))
  ];
  freed = s.freed;
  is_free = s.is_free;
  free_once = s.free_once;
  counted = s.counted;
}
  where
    nowhere : (u y : ℕ) → u ≡ k → (stands n place y && (task y == u)) ≡ false
    nowhere u y same = false-if (stands n place y && (task y == u)) (λ h.
        let parts = and-parts (stands n place y) (task y == u) h in
        let less = s.tasked y parts.0 in
        let fails : (task y == u) ≡ false = ne_eqb (task y) u (λ e. omega arith) in
        let holds = parts.1 in cc)
