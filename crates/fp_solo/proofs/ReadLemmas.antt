-- What links hold once a task's reads are dropped, and once a read is added.
use Rattle.std.proofs.Common.{◌≡◌, ◌==◌, ◌<◌, ◌+◌, ◌&&◌, ◌||◌, ℕ, Bool, true, false, not, IsTrue, List, [], ◌∷◌, length, get_or, set, take, map, filter, cond, if◌then◌else◌, refl, sym, ap, subst, ◌∙◌, inl, inr, arith, zero, suc}
use Rattle.std.proofs.lemmas.Bool.{cases_eq, eq-eqb, ne_eqb, not-true}
use Rattle.std.proofs.lemmas.List.{get_or-set_same, get_or-set_other}
use Rattle.std.proofs.lemmas.List.Folds.{list_any_at, list_any_more}
use Rattle.fp_eqs.specs.Answers.{asked, distinct}
use Rattle.fp_eqs.specs.Tests.{either, parts, false-if_not, same-place, place-here}
use Rattle.fp_links.specs.Linked.{Linked, Pair, HasLinked, HasUnlinked, has_task, row, without_task}
use Rattle.fp_solo.specs.Recorded.{is_read}

-- ---- a task's reads are dropped

row-map : (f : List Pair → List Pair) (rows : List (List Pair)) (q : ℕ) → f [] ≡ [] → get_or (map f rows) q [] ≡ f (get_or rows q [])
row-map f [] q h = sym h
row-map f (r ∷ rs) zero h = refl
row-map f (r ∷ rs) (suc q) h = row-map f rs q h

has-without : (task t : ℕ) (es : List Pair) → has_task (without_task task es) t ≡ (if t == task then false else has_task es t)
has-without task t [] = by-test (t == task)
  where
    by-test : (b : Bool) → false ≡ (if b then false else false)
    by-test true = refl
    by-test false = refl
has-without task t (e ∷ es) = elim (cases_eq e.1 task) [
  | inl same ↦ ap (λ b. has_task (cond (not b) (e ∷ filter (λ (x : Pair). not (x.1 == task)) es) (filter (λ (x : Pair). not (x.1 == task)) es)) t) (eq-eqb e.1 task same) ∙ has-without task t es
      ∙ elim (cases_eq t task) [
        | inl here ↦ ap (λ b. if b then false else has_task es t) (eq-eqb t task here) ∙ sym (ap (λ b. if b then false else (e.1 == t || has_task es t)) (eq-eqb t task here))
        | inr other ↦ ap (λ b. if b then false else has_task es t) (ne_eqb t task other)
            ∙ ap (λ b. b || has_task es t) (sym (ne_eqb e.1 t (λ k. other (sym k ∙ same))))
            ∙ sym (ap (λ b. if b then false else (e.1 == t || has_task es t)) (ne_eqb t task other))
      ]
  | inr differs ↦ ap (λ b. has_task (cond (not b) (e ∷ filter (λ (x : Pair). not (x.1 == task)) es) (filter (λ (x : Pair). not (x.1 == task)) es)) t) (ne_eqb e.1 task differs) ∙ ap (λ b. e.1 == t || b) (has-without task t es)
      ∙ elim (cases_eq t task) [
        | inl here ↦ ap (λ b. e.1 == t || (if b then false else has_task es t)) (eq-eqb t task here)
            ∙ ap (λ b. b || false) (ne_eqb e.1 t (λ k. differs (k ∙ here)))
            ∙ sym (ap (λ b. if b then false else (e.1 == t || has_task es t)) (eq-eqb t task here))
        | inr other ↦ ap (λ b. e.1 == t || (if b then false else has_task es t)) (ne_eqb t task other)
            ∙ sym (ap (λ b. if b then false else (e.1 == t || has_task es t)) (ne_eqb t task other))
      ]
]

pub unlinked-reads : (old new : Linked) (task : ℕ) → HasUnlinked old new task → (t p : ℕ) → is_read new t p ≡ (if t == task then false else is_read old t p)
unlinked-reads old new task h t p =
    ap (λ (rows : List (List Pair)). has_task (get_or rows p []) t) h.rows ∙ ap (λ es. has_task es t) (row-map (without_task task) old.rows p refl) ∙ has-without task t (row old p)

-- ---- a read is added

pub linked-reads : (old new : Linked) (task place : ℕ) → HasLinked old new task place → place < length old.rows → (t p : ℕ) → is_read new t p ≡ (is_read old t p || (place == p && task == t))
linked-reads old new task place h inside t p = ap (λ (rows : List (List Pair)). has_task (get_or rows p []) t) h.rows ∙ elim (cases_eq place p) [
  | inl same ↦ subst (λ q. has_task (get_or (set old.rows place ((h.edge, task) ∷ row old place)) q []) t ≡ (is_read old t q || (place == q && task == t))) same
      (ap (λ (es : List Pair). has_task es t) (get_or-set_same old.rows place ((h.edge, task) ∷ row old place) [] inside)
      ∙ turned (task == t) (is_read old t place) ∙ ap (λ b. is_read old t place || (b && task == t)) (sym (eq-eqb place place refl)))
  | inr other ↦ ap (λ (es : List Pair). has_task es t) (get_or-set_other old.rows place p ((h.edge, task) ∷ row old place) [] (λ e. other (sym e)))
      ∙ added (is_read old t p) (task == t) ∙ ap (λ b. is_read old t p || (b && task == t)) (sym (ne_eqb place p other))
]
  where
    turned : (a b : Bool) → (a || b) ≡ (b || (true && a))
    turned true true = refl
    turned true false = refl
    turned false true = refl
    turned false false = refl

    added : (a b : Bool) → a ≡ (a || (false && b))
    added true b = refl
    added false b = refl

-- the reads of the answers so far, and one more
pub reads-more : (old now new : Linked) (task i : ℕ) (answers : List (ℕ × ℕ)) → i < length answers → HasLinked now new task (get_or answers i (0, 0)).0 → (get_or answers i (0, 0)).0 < length now.rows →
    ((t p : ℕ) → is_read now t p ≡ (if t == task then asked (take i answers) p else is_read old t p)) →
    (t p : ℕ) → is_read new t p ≡ (if t == task then asked (take (i + 1) answers) p else is_read old t p)
reads-more old now new task i answers lt linked inside so_far t p =
    let place : ℕ = (get_or answers i (0, 0)).0 in
    linked-reads now new task place linked inside t p ∙ ap (λ b. b || (place == p && task == t)) (so_far t p) ∙ elim (cases_eq t task) [
      | inl here ↦ ap (λ b. (if b then asked (take i answers) p else is_read old t p) || (place == p && task == t)) (eq-eqb t task here)
          ∙ ap (λ b. asked (take i answers) p || (place == p && b)) (eq-eqb task t (sym here))
          ∙ and-true (asked (take i answers) p) (place == p)
          ∙ sym (list_any_more (λ (e : ℕ × ℕ). e.0 == p) answers i (0, 0) lt)
          ∙ sym (ap (λ b. if b then asked (take (i + 1) answers) p else is_read old t p) (eq-eqb t task here))
      | inr other ↦ ap (λ b. (if b then asked (take i answers) p else is_read old t p) || (place == p && task == t)) (ne_eqb t task other)
          ∙ ap (λ b. is_read old t p || (place == p && b)) (ne_eqb task t (λ k. other (sym k)))
          ∙ and-false (is_read old t p) (place == p)
          ∙ sym (ap (λ b. if b then asked (take (i + 1) answers) p else is_read old t p) (ne_eqb t task other))
    ]
  where
    and-true : (a b : Bool) → (a || (b && true)) ≡ (a || b)
    and-true true b = refl
    and-true false true = refl
    and-true false false = refl

    and-false : (a b : Bool) → (a || (b && false)) ≡ a
    and-false true b = refl
    and-false false true = refl
    and-false false false = refl

-- the place of an answer was not asked by those before it
pub not-asked : (es : List (ℕ × ℕ)) (i : ℕ) → IsTrue (distinct es) → i < length es → asked (take i es) (get_or es i (0, 0)).0 ≡ false
not-asked [] i d lt = absurd (omega arith)
not-asked (e ∷ es) zero d lt = refl
not-asked (e ∷ es) (suc i) d lt =
    let apart = parts (not (asked es e.0)) (distinct es) d in
    let inside : i < length es = omega arith in
    let rest = not-asked es i apart.1 inside in
    let place : ℕ = (get_or es i (0, 0)).0 in
    false-if_not (e.0 == place || asked (take i es) place) (λ h. elim (either (e.0 == place) (asked (take i es) place) h) [
      | inl here ↦
          (let there : IsTrue (asked es place) = list_any_at (λ (x : ℕ × ℕ). x.0 == place) es i (0, 0) inside (place-here place) in
          let twice : IsTrue (asked es e.0) = subst (λ q. IsTrue (asked es q)) (sym (same-place e.0 place here)) there in
          let once = not-true (asked es e.0) apart.0 in cc)
      | inr before ↦ (cc)
    ])

pub absent : (old now : Linked) (task i : ℕ) (answers : List (ℕ × ℕ)) → i < length answers → IsTrue (distinct answers) →
    ((t p : ℕ) → is_read now t p ≡ (if t == task then asked (take i answers) p else is_read old t p)) → is_read now task (get_or answers i (0, 0)).0 ≡ false
absent old now task i answers lt once so_far =
    let place : ℕ = (get_or answers i (0, 0)).0 in
    so_far task place ∙ ap (λ b. if b then asked (take i answers) place else is_read old task place) (eq-eqb task task refl) ∙ not-asked answers i once lt
