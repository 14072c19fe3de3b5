-- The bound of evaluations, and the end, at what a solver holds.
use Rattle.std.proofs.Common.{◌≡◌, ◌<◌, ◌≤◌, ◌+◌, ◌==◌, ℕ, Bool, false, IsTrue, slice_index, if◌then◌else◌, sym, ap, subst, ◌∙◌, inl, inr, arith}
use Rattle.std.proofs.lemmas.Bool.{cases_eq, ne_eqb}
use Rattle.fp_eqs.specs.Bounds.{evaluation_bound}
use Rattle.fp_eqs.specs.Demand.{demand}
use Rattle.fp_eqs.specs.Equations.{Equations, IsMonotone}
use Rattle.fp_eqs.specs.Solution.{solution}
use Rattle.fp_eqs.specs.Solved.{flag_at}
use Rattle.fp_links.specs.Linked.{Linked}
use Rattle.fp_solo.specs.declared.work.Work.{Work}
use Rattle.fp_solo.specs.Recorded.{is_read}
use Rattle.fp_solo.specs.Working.{IsSolvingBy}
use Rattle.fp_solo.proofs.SolvingLemmas.{evals-bound, evals-left, wanted-end}

pub bound-by : (e : Equations) → IsMonotone e → (w : Work) (n : ℕ) → IsSolvingBy e w n → n ≤ evaluation_bound e
bound-by e laws w n h = omega (arith, evals-bound e laws (slice_index w.values.items) (flag_at w.agenda.wanted.items) (flag_at w.agenda.started.items) (flag_at w.agenda.due.flags.items) (is_read w.reads.links) n h)

pub left-by : (e : Equations) → IsMonotone e → (w : Work) (n t : ℕ) → IsSolvingBy e w n → IsTrue (flag_at w.agenda.due.flags.items t) → n + 1 ≤ evaluation_bound e
left-by e laws w n t h due = evals-left e laws (slice_index w.values.items) (flag_at w.agenda.wanted.items) (flag_at w.agenda.started.items) (flag_at w.agenda.due.flags.items) (is_read w.reads.links) n t h due

pub end-by : (e : Equations) → IsMonotone e → (w : Work) (n : ℕ) → IsSolvingBy e w n → ((t : ℕ) → flag_at w.agenda.due.flags.items t ≡ false) →
    ((p : ℕ) → flag_at w.agenda.wanted.items p ≡ demand e p) × ((p : ℕ) → IsTrue (flag_at w.agenda.wanted.items p) → slice_index w.values.items p ≡ solution e p)
end-by e laws w n h none = wanted-end e laws (slice_index w.values.items) (flag_at w.agenda.wanted.items) (flag_at w.agenda.started.items) (flag_at w.agenda.due.flags.items) (is_read w.reads.links) n h none

-- a task reads places where it did before, or is the one whose reads are new
pub readers-kept : (e : Equations) (old new : Linked) (task : ℕ) (uses : ℕ → Bool) → task < e.tasks → ((t p : ℕ) → IsTrue (is_read old t p) → t < e.tasks) →
    ((t p : ℕ) → is_read new t p ≡ (if t == task then uses p else is_read old t p)) → (t p : ℕ) → IsTrue (is_read new t p) → t < e.tasks
readers-kept e old new task uses lt before reads t p h = elim (cases_eq t task) [
  | inl same ↦ subst (λ i. i < e.tasks) (sym same) lt
  | inr other ↦ before t p (subst (λ b. IsTrue b) (reads t p ∙ ap (λ b. if b then uses p else is_read old t p) (ne_eqb t task other)) h)
]
