-- How many places a task reads, and that as many that hold these are the same.
use Rattle.std.proofs.Common.{◌≡◌, ◌==◌, ◌<◌, ◌||◌, ℕ, Bool, false, IsTrue, List, [], ◌∷◌, length, slice_index, map, if◌then◌else◌, refl, sym, ap, subst, ◌∙◌, inl, inr, arith}
use Rattle.std.specs.List.{list_any}
use Rattle.std.proofs.lemmas.Bool.{cases_eq, cases_lt, eq-eqb, ne_eqb}
use Rattle.std.proofs.lemmas.List.{length-map}
use Rattle.fp_eqs.specs.Answers.{asked, distinct}
use Rattle.fp_eqs.specs.Counts.{count_below-none, count_below-same, count-listed, few-distinct}
use Rattle.fp_eqs.specs.Equations.{Equations, IsBelow, IsMonotone, count_below}
use Rattle.fp_eqs.specs.Tests.{same-bool}
use Rattle.fp_links.specs.Linked.{Linked}
use Rattle.fp_solo.specs.Recorded.{IsCount, is_read}

asked-places : (es : List (ℕ × ℕ)) (p : ℕ) → asked es p ≡ list_any (λ q. q == p) (map (λ (e : ℕ × ℕ). e.0) es)
asked-places [] p = refl
asked-places (e ∷ es) p = ap (λ b. e.0 == p || b) (asked-places es p)

pub count-asked : (es : List (ℕ × ℕ)) → IsTrue (distinct es) → IsCount (asked es) (length es)
count-asked es once n inside =
    omega (
      arith,
      few-distinct es (asked es) n once (λ p h. h) inside,
      count-listed (asked es) (map (λ (e : ℕ × ℕ). e.0) es) n (λ p h. subst (λ b. IsTrue b) (asked-places es p) h),
      length-map es (λ (e : ℕ × ℕ). e.0),
    )

pub count-none : (f : ℕ → Bool) (k : ℕ) → ((p : ℕ) → f p ≡ false) → k ≡ 0 → IsCount f k
count-none f k none is n inside = count_below-none f n (λ p _. none p) ∙ sym is

pub count-along : (f g : ℕ → Bool) (k : ℕ) → ((p : ℕ) → g p ≡ f p) → IsCount f k → IsCount g k
count-along f g k same h n inside =
    ap {B = ℕ} (λ (t : ℕ → Bool). count_below t n) (λ i p. same p i) ∙ h n (λ p on. inside p (subst (λ b. IsTrue b) (sym (same p)) on))

-- tests that pass as often, of which one passes where the other does, are one
pub same-reads : (f g : ℕ → Bool) (k m n : ℕ) → IsCount f k → IsCount g m → k ≡ m → ((p : ℕ) → IsTrue (f p) → IsTrue (g p)) → ((p : ℕ) → IsTrue (g p) → p < n) → (p : ℕ) → f p ≡ g p
same-reads f g k m n h j same more inside p = elim (cases_lt p n) [
  | inl lt ↦ count_below-same f g n (λ i _. more i) (omega (arith, h n (λ q on. inside q (more q on)), j n inside, same)) p lt
  | inr past ↦ same-bool (f p) (g p) (more p) (λ on. absurd (omega (arith, past, inside p on)))
]

-- the count of each task, once one task's reads are those of the answers
pub counts-kept : (old new : Linked) (task : ℕ) (answers : List (ℕ × ℕ)) (before after : List ℕ) (tasks : ℕ) → IsTrue (distinct answers) →
    ((t : ℕ) → t < tasks → IsCount (is_read old t) (slice_index before t)) →
    ((t p : ℕ) → is_read new t p ≡ (if t == task then asked answers p else is_read old t p)) → ((t : ℕ) → slice_index after t ≡ (if t == task then length answers else slice_index before t)) →
    (t : ℕ) → t < tasks → IsCount (is_read new t) (slice_index after t)
counts-kept old new task answers before after tasks once counts reads numbers t lt = elim (cases_eq t task) [
  | inl same ↦ subst (IsCount (is_read new t)) (sym (numbers t ∙ ap (λ b. if b then length answers else slice_index before t) (eq-eqb t task same)))
      (count-along (asked answers) (is_read new t) (length answers) (λ p. reads t p ∙ ap (λ b. if b then asked answers p else is_read old t p) (eq-eqb t task same)) (count-asked answers once))
  | inr other ↦ subst (IsCount (is_read new t)) (sym (numbers t ∙ ap (λ b. if b then length answers else slice_index before t) (ne_eqb t task other)))
      (count-along (is_read old t) (is_read new t) (slice_index before t) (λ p. reads t p ∙ ap (λ b. if b then asked answers p else is_read old t p) (ne_eqb t task other)) (counts t lt))
]

-- what tasks read they still use where values have grown
pub still-kept : (e : Equations) → IsMonotone e → (v u : ℕ → ℕ) (old new : Linked) (task : ℕ) (uses : ℕ → Bool) → task < e.tasks → IsBelow v u → ((t p : ℕ) → IsTrue (is_read old t p) → t < e.tasks) →
    ((t p : ℕ) → IsTrue (is_read old t p) → IsTrue ((e.task t).uses v p)) → ((p : ℕ) → uses p ≡ (e.task task).uses v p) →
    ((t p : ℕ) → is_read new t p ≡ (if t == task then uses p else is_read old t p)) → (t p : ℕ) → IsTrue (is_read new t p) → IsTrue ((e.task t).uses u p)
still-kept e laws v u old new task uses known grows readers before used reads t p h = elim (cases_eq t task) [
  | inl same ↦
      (let now : IsTrue (uses p) = subst (λ b. IsTrue b) (reads t p ∙ ap (λ b. if b then uses p else is_read old t p) (eq-eqb t task same)) h in
      subst (λ i. IsTrue ((e.task i).uses u p)) (sym same) ((laws.lawful task known).uses_grow v u grows p (subst (λ b. IsTrue b) (used p) now)))
  | inr other ↦
      (let was : IsTrue (is_read old t p) = subst (λ b. IsTrue b) (reads t p ∙ ap (λ b. if b then uses p else is_read old t p) (ne_eqb t task other)) h in
      (laws.lawful t (readers t p was)).uses_grow v u grows p (before t p was))
]
