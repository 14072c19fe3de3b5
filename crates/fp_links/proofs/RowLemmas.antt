-- Lists of what a function gives, and the edges of places as such a list.
use Rattle.std.proofs.Common.{◌≡◌, ◌<◌, ◌≤◌, ◌+◌, ◌==◌, ◌||◌, nat_lt, ℕ, zero, suc, Bool, true, false, not, List, [], ◌∷◌, ◌++◌, length, get_or, set, map, count_by, cond, Option, Some, None, IsTrue, if◌then◌else◌, refl, sym, ap, subst, ◌∙◌, inl, inr, arith}
use Rattle.std.specs.List.{list_any, sum_by}
use Rattle.std.proofs.lemmas.List.Sums.{sum_by-cons}
use Rattle.std.proofs.lemmas.Bool.{cases_eq, eq-eqb, ne_eqb, lt-ltb, le-ltb, or_cases}
use Rattle.fp_links.specs.Linked.{Pair, task_of_edge, first_edge, edge_after, rest_of, has_edge, has_task, without_task}
use Rattle.fp_links.specs.Rings.{put, IsLinked, has, distinct, without, table}
use Rattle.fp_links.specs.Fields.{pair}
use Rattle.fp_links.proofs.RingLemmas.{or-true, has-later, put-here, put-other, distinct-head, distinct-tail, without-none, same-number}

-- ---- tables

pub table-same : {A : Type 0} (f g : ℕ → A) (i n : ℕ) → ((q : ℕ) → i ≤ q → q < i + n → f q ≡ g q) → table f i n ≡ table g i n
table-same f g i zero same = refl
table-same f g i (suc n) same =
    let here : f i ≡ g i = same i (omega arith) (omega arith) in
    let rest = table-same f g (suc i) n (λ q le lt. same q (omega arith) (omega arith)) in cc

pub length-table : {A : Type 0} (f : ℕ → A) (i n : ℕ) → length (table f i n) ≡ n
length-table f i zero = refl
length-table f i (suc n) = ap suc (length-table f (suc i) n)

pub get_or-table : {A : Type 0} (f : ℕ → A) (i n q : ℕ) (d : A) → q < n → get_or (table f i n) q d ≡ f (i + q)
get_or-table f i zero q d lt = absurd (omega arith)
get_or-table f i (suc n) zero d lt = ap f (omega arith)
get_or-table f i (suc n) (suc q) d lt = get_or-table f (suc i) n q d (omega arith) ∙ ap f (omega arith)

pub table-put : {A : Type 0} (f : ℕ → A) (v : A) (i n q : ℕ) → q < n → table (put f (i + q) v) i n ≡ set (table f i n) q v
table-put f v i zero q lt = absurd (omega arith)
table-put f v i (suc n) zero lt =
    let here : put f (i + 0) v i ≡ v = put-here f (i + 0) v i (omega arith) in
    let rest = table-same (put f (i + 0) v) f (suc i) n (λ p le less. put-other f (i + 0) v p (λ e. omega arith)) in cc
table-put f v i (suc n) (suc q) lt =
    let here : put f (i + suc q) v i ≡ f i = put-other f (i + suc q) v i (λ e. omega arith) in
    let rest = table-put f v (suc i) n q (omega arith) in
    let at : suc i + q ≡ i + suc q = omega arith in
    let moved : table (put f (i + suc q) v) (suc i) n ≡ set (table f (suc i) n) q v = ap (λ z. table (put f z v) (suc i) n) (sym at) ∙ rest in cc

pub table-push : {A : Type 0} (f : ℕ → A) (i n : ℕ) → table f i (n + 1) ≡ table f i n ++ f (i + n) ∷ []
table-push f i zero = ap (λ z. f z ∷ []) (omega arith)
table-push f i (suc n) =
    let rest = table-push f (suc i) n in
    let at : suc i + n ≡ i + suc n = omega arith in
    let long : suc n + 1 ≡ suc (n + 1) = omega arith in
    ap (table f i) long ∙ ap (λ l. f i ∷ l) (rest ∙ ap (λ z. table f (suc i) n ++ f z ∷ []) at)

pub any-table : {A : Type 0} (p : A → Bool) (f : ℕ → A) (i n : ℕ) → ((q : ℕ) → i ≤ q → q < i + n → p (f q) ≡ false) → list_any p (table f i n) ≡ false
any-table p f i zero none = refl
any-table p f i (suc n) none =
    let here = none i (omega arith) (omega arith) in
    let rest = any-table p f (suc i) n (λ q le lt. none q (omega arith) (omega arith)) in
    rw here rest

-- ---- edges with their tasks

pub edge-pairs : (task : ℕ → ℕ) (xs : List ℕ) (e : ℕ) → has_edge (map (pair task) xs) e ≡ has xs e
edge-pairs task [] e = refl
edge-pairs task (x ∷ xs) e = ap (λ b. (x == e) || b) (edge-pairs task xs e)

pub task-pairs : (task : ℕ → ℕ) (xs : List ℕ) (t : ℕ) → has_task (map (pair task) xs) t ≡ has (map task xs) t
task-pairs task [] t = refl
task-pairs task (x ∷ xs) t = ap (λ b. (task x == t) || b) (task-pairs task xs t)

pub pairs-same : (f g : ℕ → ℕ) (xs : List ℕ) → ((x : ℕ) → has xs x ≡ true → f x ≡ g x) → map (pair f) xs ≡ map (pair g) xs
pairs-same f g [] same = refl
pairs-same f g (x ∷ xs) same =
    let here : f x ≡ g x = same x (ap (λ b. b || has xs x) (same-number x)) in
    let rest = pairs-same f g xs (λ y h. same y (has-later x y xs h)) in
    ap (λ z. (x, z) ∷ map (pair f) xs) here ∙ ap (λ l. (x, g x) ∷ l) rest

-- an edge of the task is taken out: the others stay, and the task has one less
pub others-stay : (task : ℕ → ℕ) (e t : ℕ) (xs : List ℕ) → task e ≡ t → without_task t (map (pair task) (without e xs)) ≡ without_task t (map (pair task) xs)
others-stay task e t [] h = refl
others-stay task e t (x ∷ xs) h =
    let rest = others-stay task e t xs h in
    elim (cases_eq x e) [
      | inl here ↦
          (let gone : not (x == e) ≡ false = ap not (eq-eqb x e here) in
          let own : not (task x == t) ≡ false = ap not (eq-eqb (task x) t (ap task here ∙ h)) in
          rw (gone, own) rest)
      | inr kept ↦
          (let stays : not (x == e) ≡ true = ap not (ne_eqb x e kept) in
          rw stays (ap (λ l. if not (task x == t) then (x, task x) ∷ l else l) rest))
    ]

-- how many pairs are of a task
abbrev pub count : ℕ → List Pair → ℕ
count t xs = count_by (λ x. x.1 == t) xs

count-own : (t : ℕ) (x : Pair) (xs : List Pair) → x.1 ≡ t → count t (x ∷ xs) ≡ 1 + count t xs
count-own t x xs h = sum_by-cons (λ (y : Pair). cond (y.1 == t) 1 0) x xs ∙ ap (λ b. cond b 1 0 + count t xs) (eq-eqb x.1 t h)

count-other : (t : ℕ) (x : Pair) (xs : List Pair) → (x.1 ≡ t → ⊥) → count t (x ∷ xs) ≡ count t xs
count-other t x xs h =
    let step : count t (x ∷ xs) ≡ 0 + count t xs = sum_by-cons (λ (y : Pair). cond (y.1 == t) 1 0) x xs ∙ ap (λ b. cond b 1 0 + count t xs) (ne_eqb x.1 t h) in omega arith

without-head : (e x : ℕ) (xs : List ℕ) → x ≡ e → without e (x ∷ xs) ≡ without e xs
without-head e x xs h = let gone : not (x == e) ≡ false = ap not (eq-eqb x e h) in rw gone refl

without-later : (e x : ℕ) (xs : List ℕ) → (x ≡ e → ⊥) → without e (x ∷ xs) ≡ x ∷ without e xs
without-later e x xs h = let stays : not (x == e) ≡ true = ap not (ne_eqb x e h) in rw stays refl

pub one-less : (task : ℕ → ℕ) (e t : ℕ) (xs : List ℕ) → task e ≡ t → IsTrue (distinct xs) → has xs e ≡ true → count t (map (pair task) (without e xs)) + 1 ≡ count t (map (pair task) xs)
one-less task e t [] h d k = cc
one-less task e t (x ∷ xs) h d k =
    elim (cases_eq x e) [
      | inl here ↦
          (let whole : without e (x ∷ xs) ≡ xs = without-head e x xs here ∙ without-none e xs (subst (λ z. has xs z ≡ false) here (distinct-head x xs d)) in
          let now = ap (λ l. count t (map (pair task) l)) whole in
          let before = count-own t (x, task x) (map (pair task) xs) (ap task here ∙ h) in omega arith)
      | inr kept ↦
          (let rest = one-less task e t xs h (distinct-tail x xs d) (sym (ap (λ b. b || has xs e) (ne_eqb x e kept)) ∙ k) in
          let now = ap (λ l. count t (map (pair task) l)) (without-later e x xs kept) in
          elim (cases_eq (task x) t) [
            | inl same ↦
                (let after = count-own t (x, task x) (map (pair task) (without e xs)) same in
                let before = count-own t (x, task x) (map (pair task) xs) same in omega arith)
            | inr other ↦
                (let after = count-other t (x, task x) (map (pair task) (without e xs)) other in
                let before = count-other t (x, task x) (map (pair task) xs) other in omega arith)
          ])
    ]

-- a task without an edge
pub none-of : (task : ℕ → ℕ) (t : ℕ) (xs : List ℕ) → ((x : ℕ) → has xs x ≡ true → task x ≡ t → ⊥) → count t (map (pair task) xs) ≡ 0
none-of task t [] h = refl
none-of task t (x ∷ xs) h =
    count-other t (x, task x) (map (pair task) xs) (h x (ap (λ b. b || has xs x) (same-number x))) ∙ none-of task t xs (λ y k. h y (has-later x y xs k))

pub sum-table-none : (p : List Pair → ℕ) (f : ℕ → List Pair) (i n : ℕ) → ((q : ℕ) → i ≤ q → q < i + n → p (f q) ≡ 0) → sum_by p (table f i n) ≡ 0
sum-table-none p f i zero h = refl
sum-table-none p f i (suc n) h =
    let here = h i (omega arith) (omega arith) in
    let rest = sum-table-none p f (suc i) n (λ q le lt. h q (omega arith) (omega arith)) in
    let step = sum_by-cons p (f i) (table f (suc i) n) in omega arith

pub without-nothing : (t : ℕ) (xs : List Pair) → count t xs ≡ 0 → without_task t xs ≡ xs
without-nothing t [] h = refl
without-nothing t (x ∷ xs) h =
    elim (cases_eq x.1 t) [
      | inl same ↦ absurd (let step = count-own t x xs same in omega arith)
      | inr other ↦
          (let stays : not (x.1 == t) ≡ true = ap not (ne_eqb x.1 t other) in
          let fewer : count t xs ≡ 0 = sym (count-other t x xs other) ∙ h in
          rw stays (ap (λ l. x ∷ l) (without-nothing t xs fewer)))
    ]

pub rows-without-nothing : (t : ℕ) (rows : List (List Pair)) → sum_by (count_by (λ (x : Pair). x.1 == t)) rows ≡ 0 → map (without_task t) rows ≡ rows
rows-without-nothing t [] h = refl
rows-without-nothing t (r ∷ rows) h =
    let step : sum_by (count t) (r ∷ rows) ≡ count t r + sum_by (count t) rows = sum_by-cons (count t) r rows in
    let here = without-nothing t r (omega arith) in
    let rest = rows-without-nothing t rows (omega arith) in cc

-- ---- walks

-- what is next to the start tells the first edge
pub next-first : (next previous task : ℕ → ℕ) (x : ℕ) (xs : List ℕ) (end n : ℕ) → IsLinked next previous x xs end → ((y : ℕ) → has xs y ≡ true → y < n) → n ≤ end →
    (if nat_lt (next x) n then Some (next x) else None) ≡ first_edge (map (pair task) xs)
next-first next previous task x [] end n h below past = let fails : nat_lt (next x) n ≡ false = le-ltb (next x) n (omega (arith, h.0)) in rw fails refl
next-first next previous task x (y ∷ ys) end n h below past =
    let inside : y < n = below y (ap (λ b. b || has ys y) (same-number y)) in
    let holds : nat_lt (next x) n ≡ true = lt-ltb (next x) n (omega (arith, h.0)) in
    rw holds (ap Some h.0)

-- what is next in a ring tells the edge behind
pub next-after : (next previous task : ℕ → ℕ) (x : ℕ) (xs : List ℕ) (end n e : ℕ) → IsLinked next previous x xs end → IsTrue (distinct xs) → ((y : ℕ) → has xs y ≡ true → y < n) → n ≤ end → has xs e ≡ true →
    (if nat_lt (next e) n then Some (next e) else None) ≡ edge_after (map (pair task) xs) e
next-after next previous task x [] end n e h d below past k = cc
next-after next previous task x (y ∷ ys) end n e h d below past k =
    elim (cases_eq y e) [
      | inl here ↦ (let holds : (y == e) ≡ true = eq-eqb y e here in rw holds (subst (λ z. (if nat_lt (next z) n then Some (next z) else None) ≡ first_edge (map (pair task) ys)) here (next-first next previous task y ys end n h.2 (λ z m. below z (has-later y z ys m)) past)))
      | inr other ↦
          (let fails : (y == e) ≡ false = ne_eqb y e other in
          rw fails (next-after next previous task y ys end n e h.2 (distinct-tail y ys d) (λ z m. below z (has-later y z ys m)) past (sym (ap (λ b. b || has ys e) fails) ∙ k)))
    ]

pub rest-first : (xs : List Pair) → rest_of xs (first_edge xs) ≡ xs
rest-first [] = refl
rest-first (x ∷ xs) = let here = same-number x.0 in rw here refl

-- the edge behind another one is an edge of the list
pub first-inside : (task : ℕ → ℕ) (xs : List ℕ) (z : ℕ) → first_edge (map (pair task) xs) ≡ Some z → has xs z ≡ true
first-inside task [] z h = cc
first-inside task (x ∷ xs) z h = let same : x ≡ z = cc in ap (λ b. b || has xs z) (eq-eqb x z same)

pub after-inside : (task : ℕ → ℕ) (xs : List ℕ) (e z : ℕ) → edge_after (map (pair task) xs) e ≡ Some z → has xs z ≡ true
after-inside task [] e z h = cc
after-inside task (x ∷ xs) e z h =
    elim (cases_eq x e) [
      | inl here ↦ has-later x z xs (first-inside task xs z (sym (ap (λ b. if b then first_edge (map (pair task) xs) else edge_after (map (pair task) xs) e) (eq-eqb x e here)) ∙ h))
      | inr other ↦ has-later x z xs (after-inside task xs e z (sym (ap (λ b. if b then first_edge (map (pair task) xs) else edge_after (map (pair task) xs) e) (ne_eqb x e other)) ∙ h))
    ]

-- a first edge that a walk doesn't stand at is not looked at
rest-later : (x : Pair) (xs : List Pair) (o : Option ℕ) → (o ≡ Some x.0 → ⊥) → rest_of (x ∷ xs) o ≡ rest_of xs o
rest-later x xs None h = refl
rest-later x xs (Some z) h = let fails : (x.0 == z) ≡ false = ne_eqb x.0 z (λ e. h (ap Some (sym e))) in rw fails refl

-- what is left of a walk is the edge where it stands, and what is left behind that
pub rest-step : (task : ℕ → ℕ) (xs : List ℕ) (e : ℕ) → IsTrue (distinct xs) → has xs e ≡ true →
    rest_of (map (pair task) xs) (Some e) ≡ (e, task_of_edge (map (pair task) xs) e) ∷ rest_of (map (pair task) xs) (edge_after (map (pair task) xs) e)
rest-step task [] e d h = cc
rest-step task (x ∷ xs) e d h =
    elim (cases_eq x e) [
      | inl here ↦
          (let holds : (x == e) ≡ true = eq-eqb x e here in
          let left : rest_of (map (pair task) (x ∷ xs)) (first_edge (map (pair task) xs)) ≡ map (pair task) xs =
          rest-later (x, task x) (map (pair task) xs) (first_edge (map (pair task) xs)) (λ same. let twice = first-inside task xs x same in let once = distinct-head x xs d in cc) ∙ rest-first (map (pair task) xs) in
          rw (holds, left) (ap (λ z. (z, task x) ∷ map (pair task) xs) here))
      | inr other ↦
          (let fails : (x == e) ≡ false = ne_eqb x e other in
          let rest = rest-step task xs e (distinct-tail x xs d) (sym (ap (λ b. b || has xs e) fails) ∙ h) in
          let left : rest_of (map (pair task) (x ∷ xs)) (edge_after (map (pair task) xs) e) ≡ rest_of (map (pair task) xs) (edge_after (map (pair task) xs) e) =
          rest-later (x, task x) (map (pair task) xs) (edge_after (map (pair task) xs) e) (λ same. let twice = after-inside task xs e x same in let once = distinct-head x xs d in cc) in
          rw (fails, left) rest)
    ]

pub task-told : (task : ℕ → ℕ) (xs : List ℕ) (e : ℕ) → has xs e ≡ true → task_of_edge (map (pair task) xs) e ≡ task e
task-told task [] e h = cc
task-told task (x ∷ xs) e h =
    elim (cases_eq x e) [
      | inl here ↦ (let holds : (x == e) ≡ true = eq-eqb x e here in rw holds (ap task here))
      | inr other ↦ (let fails : (x == e) ≡ false = ne_eqb x e other in rw fails (task-told task xs e (sym (ap (λ b. b || has xs e) fails) ∙ h)))
    ]

-- a test that a table passes is passed at some place of it
pub record FoundAt (test : List Pair → Bool) (f : ℕ → List Pair) (n : ℕ) : Type 0 where
  pub at : ℕ
  pub below : at < n
  pub passes : test (f at) ≡ true

pub any-found : (test : List Pair → Bool) (f : ℕ → List Pair) (i n : ℕ) → list_any test (table f i n) ≡ true → FoundAt test f (i + n)
any-found test f i zero h = cc
any-found test f i (suc n) h =
    elim (or_cases (test (f i)) (list_any test (table f (suc i) n)) h) [
      | inl here ↦ record { at = i; below = omega arith; passes = here }
      | inr later ↦ (let r = any-found test f (suc i) n later in record { at = r.at; below = omega (arith, r.below); passes = r.passes })
    ]

-- ---- edges of a row

pub first-has : (xs : List Pair) (z : ℕ) → first_edge xs ≡ Some z → has_edge xs z ≡ true
first-has [] z h = cc
first-has (x ∷ xs) z h = let same : x.0 ≡ z = cc in ap (λ b. b || has_edge xs z) (eq-eqb x.0 z same)

has-behind : (x : Pair) (xs : List Pair) (z : ℕ) → has_edge xs z ≡ true → has_edge (x ∷ xs) z ≡ true
has-behind x xs z h = ap (λ b. (x.0 == z) || b) h ∙ or-true (x.0 == z)

pub after-has : (xs : List Pair) (e z : ℕ) → edge_after xs e ≡ Some z → has_edge xs z ≡ true
after-has [] e z h = cc
after-has (x ∷ xs) e z h =
    elim (cases_eq x.0 e) [
      | inl here ↦ has-behind x xs z (first-has xs z (sym (ap (λ b. if b then first_edge xs else edge_after xs e) (eq-eqb x.0 e here)) ∙ h))
      | inr other ↦ has-behind x xs z (after-has xs e z (sym (ap (λ b. if b then first_edge xs else edge_after xs e) (ne_eqb x.0 e other)) ∙ h))
    ]

-- the task of an edge is one of those of the list
pub task-has : (xs : List Pair) (e t : ℕ) → has_edge xs e ≡ true → task_of_edge xs e ≡ t → has_task xs t ≡ true
task-has [] e t h k = cc
task-has (x ∷ xs) e t h k =
    elim (cases_eq x.0 e) [
      | inl here ↦ (let own : x.1 ≡ t = sym (ap (λ b. if b then x.1 else task_of_edge xs e) (eq-eqb x.0 e here)) ∙ k in ap (λ b. b || has_task xs t) (eq-eqb x.1 t own))
      | inr other ↦
          (let later : has_edge xs e ≡ true = sym (ap (λ b. b || has_edge xs e) (ne_eqb x.0 e other)) ∙ h in
          let rest : task_of_edge xs e ≡ t = sym (ap (λ b. if b then x.1 else task_of_edge xs e) (ne_eqb x.0 e other)) ∙ k in
          ap (λ b. (x.1 == t) || b) (task-has xs e t later rest) ∙ or-true (x.1 == t))
    ]

pub numbers-of : (task : ℕ → ℕ) (xs : List ℕ) → map (λ (e : Pair). e.0) (map (pair task) xs) ≡ xs
numbers-of task [] = refl
numbers-of task (x ∷ xs) = ap (λ l. x ∷ l) (numbers-of task xs)

pub tasks-of : (task : ℕ → ℕ) (xs : List ℕ) → map (λ (e : Pair). e.1) (map (pair task) xs) ≡ map task xs
tasks-of task [] = refl
tasks-of task (x ∷ xs) = ap (λ l. task x ∷ l) (tasks-of task xs)
