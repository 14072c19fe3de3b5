-- A solver that starts lazy tasks on demand finds the solution at every demanded place.
use Rattle.std.proofs.Common.{◌≡◌, ◌<◌, ℕ, Bool, false, IsTrue, cond, sym, ap, subst, inl, inr}
use Rattle.std.proofs.lemmas.Bool.{cases_Bool, cases_lt, cases_eq}
use Rattle.fp_bits.specs.Words.{IsWithin, within-refl, within-trans, within-antisym, zero-within}
use Rattle.fp_eqs.specs.Equations.{Equations, IsMonotone, IsBelow, IsIn}
use Rattle.fp_eqs.specs.Solution.{solution}
use Rattle.fp_eqs.specs.Demand.{demand, is_started}
use Rattle.fp_eqs.proofs.Least.{solution-least, out-past}
use Rattle.fp_eqs.proofs.LeastDemand.{demand-least, makes-none}

-- wanted places `d` and values `a` within the solution, closed under the tasks that the wanted places start
module _ (e : Equations) (laws : IsMonotone e) (d : ℕ → Bool) (a : ℕ → ℕ) (fixed : IsBelow e.fixed a) (below : IsBelow a (solution e))
    (used : (t : ℕ) → t < e.tasks → IsTrue (is_started e d t) → IsIn ((e.task t).uses a) d)
    (closed : (t : ℕ) → t < e.tasks → IsTrue (is_started e d t) → IsBelow ((e.task t).out a) a) where
  -- the values at the wanted places, and the solution elsewhere
  mixed : ℕ → ℕ
  mixed p = cond (d p) (a p) (solution e p)

  mixed-wanted : (p : ℕ) → IsTrue (d p) → mixed p ≡ a p
  unfolding mixed
  mixed-wanted p h = ap (λ b. cond b (a p) (solution e p)) h

  mixed-else : (p : ℕ) → d p ≡ false → mixed p ≡ solution e p
  unfolding mixed
  mixed-else p h = ap (λ b. cond b (a p) (solution e p)) h

  mixed-below : IsBelow mixed (solution e)
  mixed-below p =
      elim (cases_Bool (d p)) [
        | inl wanted ↦ subst (λ v. IsWithin v (solution e p)) (sym (mixed-wanted p wanted)) (below p)
        | inr other ↦ subst (λ v. IsWithin v (solution e p)) (sym (mixed-else p other)) (within-refl (solution e p))
      ]

  below-mixed : IsBelow a mixed
  below-mixed p =
      elim (cases_Bool (d p)) [
        | inl wanted ↦ subst (IsWithin (a p)) (sym (mixed-wanted p wanted)) (within-refl (a p))
        | inr other ↦ subst (IsWithin (a p)) (sym (mixed-else p other)) (below p)
      ]

  -- a task that isn't started contributes nothing to a wanted place
  stopped-gives-none : (t : ℕ) → t < e.tasks → is_started e d t ≡ false → (p : ℕ) → IsTrue (d p) → (e.task t).out mixed p ≡ 0
  stopped-gives-none t lt stopped p wanted =
      elim (cases_lt p e.places) [
        | inr past ↦ out-past e laws t lt mixed p past
        | inl inside ↦ elim (cases_eq ((e.task t).out mixed p) 0) [
          | inl none ↦ none
          | inr some ↦ (let makes = (laws.lawful t lt).gives_made mixed p some in let never = makes-none e d t stopped p inside wanted in cc)
        ]
      ]

  mixed-closed : (t : ℕ) → t < e.tasks → IsBelow ((e.task t).out mixed) mixed
  mixed-closed t lt p =
      elim (cases_Bool (is_started e d t)) [
        | inl started ↦
            (let same : (e.task t).out a p ≡ (e.task t).out mixed p = (laws.lawful t lt).out_depends a mixed (λ q uses. sym (mixed-wanted q (used t lt started q uses))) p in
            within-trans ((e.task t).out mixed p) (a p) (mixed p) (subst (λ v. IsWithin v (a p)) same (closed t lt started p)) (below-mixed p))
        | inr stopped ↦ elim (cases_Bool (d p)) [
          | inl wanted ↦ subst (λ v. IsWithin v (mixed p)) (sym (stopped-gives-none t lt stopped p wanted)) (zero-within (mixed p))
          | inr other ↦ subst (IsWithin ((e.task t).out mixed p)) (sym (mixed-else p other))
              (within-trans ((e.task t).out mixed p) ((e.task t).out (solution e) p) (solution e p)
              ((laws.lawful t lt).out_grows mixed (solution e) mixed-below p) ((solution-least e laws).closed t lt p))
        ]
      ]

  pub solved-in : (p : ℕ) → IsTrue (d p) → a p ≡ solution e p
  solved-in p wanted =
      let least : IsWithin (solution e p) (mixed p) = (solution-least e laws).least mixed (λ q. within-trans (e.fixed q) (a q) (mixed q) (fixed q) (below-mixed q)) mixed-closed p in
      within-antisym (a p) (solution e p) (below p) (subst (IsWithin (solution e p)) (mixed-wanted p wanted) least)

  pub demand-in : IsIn e.shown d → IsIn (demand e) d
  demand-in shown =
      (demand-least e laws).least d shown (λ t lt started p uses.
      used t lt started p (subst (λ b. IsTrue b) (sym ((laws.lawful t lt).uses_depend a (solution e) (λ q here. solved-in q (used t lt started q here)) p)) uses))
