-- An evaluation keeps what stands while a system is solved, and what stands at the end is the solution.
use Rattle.std.proofs.Common.{◌≡◌, ◌<◌, ◌≤◌, ◌+◌, ◌-◌, ◌^◌, ◌==◌, ◌&&◌, ◌||◌, ◌⊎◌, ℕ, Bool, true, false, not, IsTrue, bit_or, if◌then◌else◌, refl, sym, ap, subst, ◌∙◌, inl, inr, arith, zero, suc}
use Rattle.std.specs.Int.{bit_at}
use Rattle.std.proofs.lemmas.Bool.{cases_Bool, cases_eq, cases_lt, eq-eqb, ne_eqb, not-true}
use Rattle.std.proofs.lemmas.Nat.{le_or_l}
use Rattle.std.proofs.lemmas.Nat.Bits.{bit_at_or, bit_at-lt, same_from_bits_below}
use Rattle.fp_bits.specs.Words.{IsWithin, or-fits, or-within, within-or_right, within-refl, within-trans}
use Rattle.fp_eqs.specs.Bounds.{sum_below, new_bits, evaluation_bound}
use Rattle.fp_eqs.specs.Counts.{but, but-parts, count_below-with}
use Rattle.fp_eqs.specs.Demand.{any_below, demand, is_started}
use Rattle.fp_eqs.specs.Equations.{Equations, IsMonotone, IsBelow, IsIn, count_below}
use Rattle.fp_eqs.specs.Solution.{solution}
use Rattle.fp_eqs.specs.Tests.{left, right, either, both, parts, false-if_not, any-found, same-bool, neither}
use Rattle.fp_eqs.proofs.Sums.{sum_below-le}
use Rattle.fp_eqs.proofs.Least.{solution-fits, solution-least}
use Rattle.fp_eqs.proofs.LeastDemand.{started-grows, demand-least}
use Rattle.fp_eqs.proofs.OnDemand.{solved-in, demand-in}
use Rattle.fp_solo.specs.Solving.{IsSettled, IsSolving, Wakes, pays}

-- ---- bits gained

bit-le : (x y i : ℕ) → IsWithin x y → bit_at x i ≤ bit_at y i
bit-le x y i h = let e = ap (λ v. bit_at v i) (sym h) ∙ bit_at_or x y i in omega arith

pub new_bits-le : (x y z : ℕ) → IsWithin y z → new_bits x y ≤ new_bits x z
unfolding new_bits
new_bits-le x y z h = sum_below-le (λ i. bit_at y i - bit_at x i) (λ i. bit_at z i - bit_at x i) 64 (λ i _. let le = bit-le y z i h in omega arith)

-- terms that only rise, and a smaller sum: one term that rises makes the sum rise
sum-less : (f g : ℕ → ℕ) (n i : ℕ) → ((j : ℕ) → j < n → f j ≤ g j) → i < n → f i < g i → sum_below f n + 1 ≤ sum_below g n
sum-less f g zero i h lt less = absurd (omega arith)
sum-less f g (suc n) i h lt less =
    elim (cases_lt i n) [
      | inl small ↦ omega (arith, sum-less f g n i (λ j below. h j (omega arith)) small less, h n (omega arith))
      | inr big ↦ (let e : i ≡ n = omega arith in let here : f n < g n = subst (λ j. f j < g j) e less in omega (arith, sum_below-le f g n (λ j below. h j (omega arith)), here))
    ]

-- a bit that the larger word has besides
pub record NewBit (y z : ℕ) : Type 0 where
  pub at : ℕ
  pub below : at < 64
  pub old : bit_at y at ≡ 0
  pub new : bit_at z at ≡ 1

bit-few : (x i : ℕ) → bit_at x i ≤ 1
bit-few x i = omega (arith, bit_at-lt x i)

find-bit : (y z n : ℕ) → IsWithin y z → ((i : ℕ) → i < n → bit_at y i ≡ bit_at z i) ⊎ ((i : ℕ) × (i < n) × (bit_at y i ≡ 0) × (bit_at z i ≡ 1))
find-bit y z zero h = inl (λ i lt. absurd (omega arith))
find-bit y z (suc n) h =
    elim (find-bit y z n h) [
      | inl same ↦ elim (cases_eq (bit_at y n) (bit_at z n)) [
        | inl here ↦ inl (λ i lt. elim (cases_lt i n) [ inl small ↦ same i small | inr big ↦ (let e : i ≡ n = omega arith in subst (λ j. bit_at y j ≡ bit_at z j) (sym e) here) ])
        | inr other ↦ inr (n, omega arith, omega (arith, bit-le y z n h, bit-few z n), omega (arith, bit-le y z n h, bit-few z n))
      ]
      | inr found ↦ inr (found.0, omega (arith, found.1), found.2, found.3)
    ]

pub new_bits-more : (x y z : ℕ) → IsWithin x y → IsWithin y z → (y ≡ z → ⊥) → y < 2 ^ 64 → z < 2 ^ 64 → new_bits x y + 1 ≤ new_bits x z
unfolding new_bits
new_bits-more x y z h k ne fy fz =
    elim (find-bit y z 64 k) [
      | inl same ↦ absurd (ne (same_from_bits_below 64 y z fy fz same))
      | inr found ↦
          (let i = found.0 in
          let zero_x : bit_at x i ≡ 0 = omega (arith, bit-le x y i h, found.2) in
          sum-less (λ j. bit_at y j - bit_at x j) (λ j. bit_at z j - bit_at x j) 64 i (λ j _. let le = bit-le y z j k in omega arith) found.1 (omega (arith, zero_x, found.2, found.3)))
    ]

-- ---- what values pay

pay : Equations → (ℕ → ℕ) → ℕ → ℕ → ℕ
pay e v t p = if (e.task t).uses (solution e) p then new_bits (e.fixed p) (v p) else 0

pay-le : (e : Equations) (v u : ℕ → ℕ) (t p : ℕ) → IsBelow v u → pay e v t p ≤ pay e u t p
unfolding pay
pay-le e v u t p h = by ((e.task t).uses (solution e) p)
  where
    by : (b : Bool) → (if b then new_bits (e.fixed p) (v p) else 0) ≤ (if b then new_bits (e.fixed p) (u p) else 0)
    by true = new_bits-le (e.fixed p) (v p) (u p) (h p)
    by false = omega arith

pays-start : (e : Equations) (v : ℕ → ℕ) (s : ℕ → Bool) (t : ℕ) → IsTrue (s t) → pays e v s t ≡ 1 + sum_below (pay e v t) e.places
unfolding pay
pays-start e v s t h = ap (λ b. if b then 1 + sum_below (λ p. if (e.task t).uses (solution e) p then new_bits (e.fixed p) (v p) else 0) e.places else 0) h

pays-none : (e : Equations) (v : ℕ → ℕ) (s : ℕ → Bool) (t : ℕ) → s t ≡ false → pays e v s t ≡ 0
pays-none e v s t h = ap (λ b. if b then 1 + sum_below (λ p. if (e.task t).uses (solution e) p then new_bits (e.fixed p) (v p) else 0) e.places else 0) h

pays-le : (e : Equations) (v u : ℕ → ℕ) (s z : ℕ → Bool) (t : ℕ) → IsBelow v u → (IsTrue (s t) → IsTrue (z t)) → pays e v s t ≤ pays e u z t
pays-le e v u s z t h more = elim (cases_Bool (s t)) [
  | inl yes_now ↦ omega (arith, pays-start e v s t yes_now, pays-start e u z t (more yes_now), sum_below-le (pay e v t) (pay e u t) e.places (λ p _. pay-le e v u t p h))
  | inr not_yet ↦ omega (arith, pays-none e v s t not_yet)
]

-- ---- the bound

pub evals-bound : (e : Equations) → IsMonotone e → (v : ℕ → ℕ) (w s d : ℕ → Bool) (r : ℕ → ℕ → Bool) (n : ℕ) → IsSolving e v w s d r n → n + count_below d e.tasks ≤ evaluation_bound e
evals-bound e laws v w s d r n h =
    let rise : sum_below (pays e v s) e.tasks ≤ sum_below (pays e (solution e) (is_started e (demand e))) e.tasks =
    sum_below-le (pays e v s) (pays e (solution e) (is_started e (demand e))) e.tasks (λ t lt. pays-le e v (solution e) s (is_started e (demand e)) t h.below (λ on. started-grows e w (demand e) h.demanded t (subst (λ b. IsTrue b) (h.starts t lt) on))) in
    let all : sum_below (pays e (solution e) (is_started e (demand e))) e.tasks ≡ evaluation_bound e = refl in
    omega (arith, h.few, rise, all)

-- a task that is due leaves one evaluation more
one-due : (d : ℕ → Bool) (n t : ℕ) → t < n → IsTrue (d t) → 1 ≤ count_below d n
one-due d n t lt h = omega (arith, count_below-with d t n lt h)

pub evals-left : (e : Equations) → IsMonotone e → (v : ℕ → ℕ) (w s d : ℕ → Bool) (r : ℕ → ℕ → Bool) (n t : ℕ) → IsSolving e v w s d r n → IsTrue (d t) → n + 1 ≤ evaluation_bound e
evals-left e laws v w s d r n t h due =
    omega (arith, evals-bound e laws v w s d r n h, one-due d e.tasks t (h.started_tasks t (h.due_started t due)) due)

-- ---- the end

pub wanted-end : (e : Equations) → IsMonotone e → (v : ℕ → ℕ) (w s d : ℕ → Bool) (r : ℕ → ℕ → Bool) (n : ℕ) → IsSolving e v w s d r n → ((t : ℕ) → d t ≡ false) →
    ((p : ℕ) → w p ≡ demand e p) × ((p : ℕ) → IsTrue (w p) → v p ≡ solution e p)
wanted-end e laws v w s d r n h done =
    (λ p. same-bool (w p) (demand e p) (h.demanded p) (demand-in e laws w v h.above h.below used closed h.shown p), solved-in e laws w v h.above h.below used closed)
  where
    on : (t : ℕ) → t < e.tasks → IsTrue (is_started e w t) → IsTrue (s t)
    on t lt started = subst (λ b. IsTrue b) (sym (h.starts t lt)) started

    used : (t : ℕ) → t < e.tasks → IsTrue (is_started e w t) → IsIn ((e.task t).uses v) w
    used t lt started p uses = h.reads_wanted t p (subst (λ b. IsTrue b) ((h.settled t lt (on t lt started) (done t)).reads p) uses)

    closed : (t : ℕ) → t < e.tasks → IsTrue (is_started e w t) → IsBelow ((e.task t).out v) v
    closed t lt started = (h.settled t lt (on t lt started) (done t)).closed

-- ---- the start

-- sums of what is counted and of what is paid
counts : (f : ℕ → Bool) (n : ℕ) → count_below f n ≡ sum_below (λ i. if f i then 1 else 0) n
counts f zero = refl
counts f (suc n) = ap (λ k. k + (if f n then 1 else 0)) (counts f n)

-- what stands before any task was evaluated: the shown places are wanted, and each task that they start is due
pub solving-start : (e : Equations) → IsMonotone e → (v : ℕ → ℕ) (w s d : ℕ → Bool) (r : ℕ → ℕ → Bool) → ((p : ℕ) → v p ≡ e.fixed p) → IsIn e.shown w → IsIn w e.shown →
    ((t : ℕ) → t < e.tasks → s t ≡ is_started e w t) → ((t : ℕ) → IsTrue (s t) → t < e.tasks) → ((t : ℕ) → d t ≡ s t) → ((t p : ℕ) → r t p ≡ false) → IsSolving e v w s d r 0
solving-start e laws v w s d r values shown only starts tasks due none = record {
  above = λ p. subst (IsWithin (e.fixed p)) (sym (values p)) (within-refl (e.fixed p));
  below = λ p. subst (λ x. IsWithin x (solution e p)) (sym (values p)) ((solution-least e laws).holds_fixed p);
  shown = shown;
  demanded = λ p h. (demand-least e laws).holds_shown p (only p h);
  starts = starts;
  reads_wanted = λ t p h. let never = none t p in cc;
  reads_used = λ t p h. let never = none t p in cc;
  reads_started = λ t p h. let never = none t p in cc;
  due_started = λ t h. subst (λ b. IsTrue b) (due t) h;
  started_tasks = tasks;
  settled = λ t lt on calm. let same = due t in cc;
  few = omega (arith, counts d e.tasks, sum_below-le (λ i. if d i then 1 else 0) (pays e v s) e.tasks (λ t _. one-paid t));
}
  where
    one : Bool → ℕ
    one b = if b then 1 else 0

    one-paid : (t : ℕ) → one (d t) ≤ pays e v s t
    one-paid t = elim (cases_Bool (d t)) [
      | inl on ↦ (let counted : one (d t) ≡ 1 = ap one on in omega (arith, counted, pays-start e v s t (subst (λ b. IsTrue b) (due t) on)))
      | inr off ↦ (let counted : one (d t) ≡ 0 = ap one off in omega (arith, counted))
    ]

-- ---- an evaluation

sum-paid : (a x b y : ℕ → ℕ) (n : ℕ) → ((i : ℕ) → i < n → a i + x i ≤ b i + y i) → sum_below a n + sum_below x n ≤ sum_below b n + sum_below y n
sum-paid a x b y zero h = omega arith
sum-paid a x b y (suc n) h = omega (arith, sum-paid a x b y n (λ i lt. h i (omega arith)), h n (omega arith))

pay-less : (e : Equations) (v u : ℕ → ℕ) (t p : ℕ) → IsTrue ((e.task t).uses (solution e) p) → IsWithin (e.fixed p) (v p) → IsWithin (v p) (u p) → (v p ≡ u p → ⊥) → v p < 2 ^ 64 → u p < 2 ^ 64 → pay e v t p < pay e u t p
unfolding pay
pay-less e v u t p uses above grows ne fv fu =
    let a : (if (e.task t).uses (solution e) p then new_bits (e.fixed p) (v p) else 0) ≡ new_bits (e.fixed p) (v p) = ap (λ b. if b then new_bits (e.fixed p) (v p) else 0) uses in
    let b : (if (e.task t).uses (solution e) p then new_bits (e.fixed p) (u p) else 0) ≡ new_bits (e.fixed p) (u p) = ap (λ b. if b then new_bits (e.fixed p) (u p) else 0) uses in
    omega (arith, a, b, new_bits-more (e.fixed p) (v p) (u p) above grows ne fv fu)

-- the state behind an evaluation of a task that was due
pub evaluated-by : (e : Equations) → IsMonotone e → (v u : ℕ → ℕ) (w x s z d d2 c : ℕ → Bool) (r q : ℕ → ℕ → Bool) (n t : ℕ) → IsSolving e v w s d r n → IsTrue (d t) →
    ((p : ℕ) → v p < 2 ^ 64) → ((p : ℕ) → u p < 2 ^ 64) →
    ((p : ℕ) → u p ≡ bit_or (v p) ((e.task t).out v p)) → ((p : ℕ) → x p ≡ (w p || (e.task t).uses v p)) → ((i : ℕ) → i < e.tasks → z i ≡ is_started e x i) → ((i : ℕ) → IsTrue (z i) → i < e.tasks) →
    ((i p : ℕ) → q i p ≡ (if i == t then (e.task t).uses v p else r i p)) → ((i : ℕ) → d2 i ≡ ((d i && not (t == i)) || (z i && not (s i)))) → Wakes e.places q v u d2 c →
    IsSolving e u x z c q (n + 1)
evaluated-by e laws v u w x s z d d2 c r q n t h due fv fu values wants starts tasks reads again wakes = record {
  above = λ p. within-trans (e.fixed p) (v p) (u p) (h.above p) (wakes.grows p);
  below = λ p. subst (λ a. IsWithin a (solution e p)) (sym (values p)) (or-within (v p) ((e.task t).out v p) (solution e p) (h.below p)
      (within-trans ((e.task t).out v p) ((e.task t).out (solution e) p) (solution e p) ((laws.lawful t known).out_grows v (solution e) h.below p) ((solution-least e laws).closed t known p)));
  shown = λ p k. more p (h.shown p k);
  demanded = wanted_new;
  starts = starts;
  reads_wanted = λ i p k. elim (cases_eq i t) [
    | inl same ↦ subst (λ b. IsTrue b) (sym (wants p)) (right (w p) ((e.task t).uses v p) (subst (λ b. IsTrue b) (own i p same) k))
    | inr ne ↦ more p (h.reads_wanted i p (subst (λ b. IsTrue b) (other i p ne) k))
  ];
  reads_used = used_new;
  reads_started = started_new;
  due_started = due_new;
  started_tasks = tasks;
  settled = settled_new;
  few = (
      let paid = sum-paid (λ i. if c i then 1 else 0) (pays e v s) (λ i. if d1 i then 1 else 0) (pays e u z) e.tasks pointwise in
      let taken : count_below d1 e.tasks + 1 ≤ count_below d e.tasks = count_below-with d t e.tasks known due in
      omega (arith, h.few, paid, counts c e.tasks, counts d1 e.tasks, taken));
}
  where
    known : t < e.tasks
    known = h.started_tasks t (h.due_started t due)

    d1 : ℕ → Bool
    d1 i = but d t i

    own : (i p : ℕ) → i ≡ t → q i p ≡ (e.task t).uses v p
    own i p same = reads i p ∙ ap (λ b. if b then (e.task t).uses v p else r i p) (eq-eqb i t same)

    other : (i p : ℕ) → (i ≡ t → ⊥) → q i p ≡ r i p
    other i p ne = reads i p ∙ ap (λ b. if b then (e.task t).uses v p else r i p) (ne_eqb i t ne)

    more : IsIn w x
    more p k = subst (λ b. IsTrue b) (sym (wants p)) (left (w p) ((e.task t).uses v p) k)

    wanted_new : IsIn x (demand e)
    wanted_new p k = elim (either (w p) ((e.task t).uses v p) (subst (λ b. IsTrue b) (wants p) k)) [
      | inl before ↦ h.demanded p before
      | inr uses ↦ (demand-least e laws).supplied t known (started-grows e w (demand e) h.demanded t (subst (λ b. IsTrue b) (h.starts t known) (h.due_started t due))) p ((laws.lawful t known).uses_grow v (solution e) h.below p uses)
    ]

    on : (i : ℕ) → IsTrue (s i) → IsTrue (z i)
    on i k = let lt = h.started_tasks i k in subst (λ b. IsTrue b) (sym (starts i lt)) (started-grows e w x more i (subst (λ b. IsTrue b) (h.starts i lt) k))

    used_new : (i p : ℕ) → IsTrue (q i p) → IsTrue ((e.task i).uses (solution e) p)
    used_new i p k = elim (cases_eq i t) [
      | inl same ↦ subst (λ j. IsTrue ((e.task j).uses (solution e) p)) (sym same) ((laws.lawful t known).uses_grow v (solution e) h.below p (subst (λ b. IsTrue b) (own i p same) k))
      | inr ne ↦ h.reads_used i p (subst (λ b. IsTrue b) (other i p ne) k)
    ]

    started_new : (i p : ℕ) → IsTrue (q i p) → IsTrue (z i)
    started_new i p k = elim (cases_eq i t) [
      | inl same ↦ on i (subst (λ j. IsTrue (s j)) (sym same) (h.due_started t due))
      | inr ne ↦ on i (h.reads_started i p (subst (λ b. IsTrue b) (other i p ne) k))
    ]

    from_d2 : (i : ℕ) → IsTrue (d2 i) → IsTrue (d1 i) ⊎ (IsTrue (z i) × (s i ≡ false))
    from_d2 i k = elim (either (d1 i) (z i && not (s i)) (subst (λ b. IsTrue b) (again i) k)) [
      | inl old ↦ inl old
      | inr new ↦ (let both_parts = parts (z i) (not (s i)) new in inr (both_parts.0, not-true (s i) both_parts.1))
    ]

    due_new : (i : ℕ) → IsTrue (c i) → IsTrue (z i)
    due_new i k = elim (either (d2 i) (any_below (λ p. q i p && not (v p == u p)) e.places) (wakes.only i k)) [
      | inl old ↦ elim (from_d2 i old) [ inl before ↦ on i (h.due_started i (but-parts d t i before).0) | inr new ↦ new.0 ]
      | inr changed ↦ (let at = any-found (λ p. q i p && not (v p == u p)) e.places changed in started_new i at.at (parts (q i at.at) (not (v at.at == u at.at)) at.passes).0)
    ]

    quiet : (i p : ℕ) → c i ≡ false → IsTrue (q i p) → v p ≡ u p
    quiet i p none reads_it = elim (cases_eq (v p) (u p)) [ inl same ↦ same | inr ne ↦ (let woken = wakes.woken i p reads_it ne in cc) ]

    settled_new : (i : ℕ) → i < e.tasks → IsTrue (z i) → c i ≡ false → IsSettled (e.task i) u (q i)
    settled_new i lt started none =
        let calm : d2 i ≡ false = false-if_not (d2 i) (λ k. let woken = wakes.kept i k in cc) in
        let none_of = neither (d1 i) (z i && not (s i)) (sym (again i) ∙ calm) in
        let was : IsTrue (s i) = elim (cases_Bool (s i)) [ inl yes_now ↦ yes_now | inr not_yet ↦ (let new = both (z i) (not (s i)) started (ap not not_yet) in let fails = none_of.1 in cc) ] in
        elim (cases_eq i t) [
          | inl same ↦
              (let law = laws.lawful i lt in
              let reads_now : (p : ℕ) → (e.task i).uses v p ≡ q i p = λ p. sym (own i p same ∙ ap (λ j. (e.task j).uses v p) (sym same)) in
              let calm_at : (p : ℕ) → IsTrue ((e.task i).uses v p) → v p ≡ u p = λ p k. quiet i p none (subst (λ b. IsTrue b) (reads_now p) k) in
              record {
                reads = λ p. sym (law.uses_depend v u calm_at p) ∙ reads_now p;
                closed = λ p. subst (λ a. IsWithin a (u p)) (law.out_depends v u calm_at p) (subst (λ a. IsWithin ((e.task i).out v p) a) (sym (values p ∙ ap (λ j. bit_or (v p) ((e.task j).out v p)) (sym same))) (within-or_right (v p) ((e.task i).out v p)));
              })
          | inr ne ↦
              (let law = laws.lawful i lt in
              let calm_before : d i ≡ false = false-if_not (d i) (λ k. let kept = both (d i) (not (t == i)) k (ap not (ne_eqb t i (λ same. ne (sym same)))) in let fails = none_of.0 in cc) in
              let old = h.settled i lt was calm_before in
              let reads_now : (p : ℕ) → (e.task i).uses v p ≡ q i p = λ p. old.reads p ∙ sym (other i p ne) in
              let calm_at : (p : ℕ) → IsTrue ((e.task i).uses v p) → v p ≡ u p = λ p k. quiet i p none (subst (λ b. IsTrue b) (reads_now p) k) in
              record {
                reads = λ p. sym (law.uses_depend v u calm_at p) ∙ reads_now p;
                closed = λ p. subst (λ a. IsWithin a (u p)) (law.out_depends v u calm_at p) (within-trans ((e.task i).out v p) (v p) (u p) (old.closed p) (wakes.grows p));
              })
        ]

    one : Bool → ℕ
    one b = if b then 1 else 0

    paid-more : (i p : ℕ) → p < e.places → IsTrue (s i) → IsTrue (q i p) → (v p ≡ u p → ⊥) → pays e v s i + 1 ≤ pays e u z i
    paid-more i p lt started reads_it ne =
        let uses = used_new i p reads_it in
        let less : pay e v i p < pay e u i p = pay-less e v u i p uses (h.above p) (wakes.grows p) ne (fv p) (fu p) in
        omega (arith, pays-start e v s i started, pays-start e u z i (on i started), sum-less (pay e v i) (pay e u i) e.places p (λ j _. pay-le e v u i j wakes.grows) lt less)

    paid : (i : ℕ) → (c i ≡ true) → 1 + pays e v s i ≤ one (d1 i) + pays e u z i
    paid i k = elim (either (d2 i) (any_below (λ p. q i p && not (v p == u p)) e.places) (wakes.only i k)) [
      | inl old ↦ elim (from_d2 i old) [
        | inl before ↦ (let counted : one (d1 i) ≡ 1 = ap one before in omega (arith, counted, pays-le e v u s z i wakes.grows (on i)))
        | inr new ↦ omega (arith, pays-none e v s i new.1, pays-start e u z i new.0)
      ]
      | inr changed ↦
          (let at = any-found (λ p. q i p && not (v p == u p)) e.places changed in
          let seen = parts (q i at.at) (not (v at.at == u at.at)) at.passes in
          let ne : v at.at ≡ u at.at → ⊥ = λ same. let holds = eq-eqb (v at.at) (u at.at) same in let fails = not-true (v at.at == u at.at) seen.1 in cc in
          elim (cases_Bool (s i)) [
            | inl started ↦ omega (arith, paid-more i at.at at.below started seen.0 ne)
            | inr not_yet ↦ omega (arith, pays-none e v s i not_yet, pays-start e u z i (started_new i at.at seen.0))
          ])
    ]

    pointwise : (i : ℕ) → i < e.tasks → one (c i) + pays e v s i ≤ one (d1 i) + pays e u z i
    pointwise i lt = elim (cases_Bool (c i)) [
      | inl k ↦ (let counted : one (c i) ≡ 1 = ap one k in omega (arith, counted, paid i k))
      | inr none ↦ (let counted : one (c i) ≡ 0 = ap one none in omega (arith, counted, pays-le e v u s z i wakes.grows (on i)))
    ]

-- ---- a step

pub words-below : (e : Equations) → IsMonotone e → (v : ℕ → ℕ) → IsBelow v (solution e) → (p : ℕ) → v p < 2 ^ 64
words-below e laws v below p =
    let most : v p ≤ solution e p = subst (λ x. v p ≤ x) (below p) (le_or_l (v p) (solution e p)) in
    omega (arith, most, solution-fits e laws p)

-- a task that was due is so no more, and then its evaluation is taken in
pub step-solving : (e : Equations) → IsMonotone e → (v u : ℕ → ℕ) (w x s z d d0 c : ℕ → Bool) (r q : ℕ → ℕ → Bool) (n t : ℕ) → IsSolving e v w s d r n → IsTrue (d t) → ((i : ℕ) → d0 i ≡ (d i && not (t == i))) →
    ((p : ℕ) → u p ≡ bit_or (v p) ((e.task t).out v p)) → ((p : ℕ) → x p ≡ (w p || (e.task t).uses v p)) → ((i : ℕ) → i < e.tasks → z i ≡ is_started e x i) → ((i : ℕ) → IsTrue (z i) → i < e.tasks) →
    ((i p : ℕ) → q i p ≡ (if i == t then (e.task t).uses v p else r i p)) → Wakes e.places q v u (λ i. d0 i || (z i && not (s i))) c → IsSolving e u x z c q (n + 1)
step-solving e laws v u w x s z d d0 c r q n t h due taken values wants starts tasks reads wakes =
    let fits = words-below e laws v h.below in
    let outs = (laws.lawful t (h.started_tasks t (h.due_started t due))).out_fits v fits in
    evaluated-by e laws v u w x s z d (λ i. d0 i || (z i && not (s i))) c r q n t h due fits
    (λ p. subst (λ k. k < 2 ^ 64) (sym (values p)) (or-fits (v p) ((e.task t).out v p) (fits p) (outs p)))
    values wants starts tasks reads (λ i. ap (λ b. b || (z i && not (s i))) (taken i)) wakes
