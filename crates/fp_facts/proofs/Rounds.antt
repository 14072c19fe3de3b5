-- Whole rounds of a monotone step end in its least solution.
use Rattle.std.proofs.Common.{◌≡◌, ◌<◌, ◌≤◌, ◌*◌, ◌⊎◌, ℕ, IsTrue, sym, ap, subst, inl, inr, arith, zero, suc, add-one}
use Rattle.std.proofs.lemmas.Bool.{cases_lt}
use Rattle.fp_eqs.specs.Bounds.{sum_below}
use Rattle.fp_eqs.proofs.Sums.{sum_below-same, sum_below-most}
use Rattle.fp_facts.specs.Lattices.{Lattice, IsLattice, IsAllBelow, after_rounds, least_of, IsMonotoneStep, IsLeast}
use Rattle.fp_facts.proofs.Orders.{below-refl, below-trans}

module _ {L : Type 0} (l : Lattice L) (laws : IsLattice l) (nodes : ℕ) (step : (ℕ → L) → ℕ → L) (first : ℕ → L) (m : IsMonotoneStep l nodes step first) where
  pub after_rounds-fits : (k p : ℕ) → IsTrue (l.fits (after_rounds step first k p))
  after_rounds-fits zero p = m.first_fits p
  after_rounds-fits (suc k) p = m.fits (after_rounds step first k) (after_rounds-fits k) p

  -- no round leaves what is closed
  after_rounds-below : (b : ℕ → L) → IsAllBelow l first b → IsAllBelow l (step b) b → (k : ℕ) → IsAllBelow l (after_rounds step first k) b
  after_rounds-below b holds closed zero p = holds p
  after_rounds-below b holds closed (suc k) p =
      below-trans l laws _ (step b p) (b p) (m.monotone (after_rounds step first k) b (after_rounds-below b holds closed k) p) (closed p)

  first-below : (k : ℕ) → IsAllBelow l first (after_rounds step first k)
  first-below zero p = below-refl l laws (first p)
  first-below (suc k) p = below-trans l laws _ (after_rounds step first k p) _ (first-below k p) (m.grows (after_rounds step first k) p)

  IsStable : ℕ → Type 0
  IsStable k = (p : ℕ) → after_rounds step first k p ≡ after_rounds step first (suc k) p

  weight : ℕ → ℕ
  weight k = sum_below (λ p. l.height (after_rounds step first k p)) nodes

  height-grows : (k p : ℕ) → l.height (after_rounds step first k p) ≤ l.height (after_rounds step first (suc k) p)
  height-grows k p = laws.height_grows _ _ (after_rounds-fits k p) (after_rounds-fits (suc k) p) (m.grows (after_rounds step first k) p)

  weight-most : (k : ℕ) → weight k ≤ l.most * nodes
  unfolding weight
  weight-most k = sum_below-most (λ p. l.height (after_rounds step first k p)) l.most nodes (λ p _. laws.height_most _ (after_rounds-fits k p))

  -- a round that raises no height changes nothing
  stable-weight : (k : ℕ) → weight (suc k) ≤ weight k → IsStable k
  unfolding weight IsStable
  stable-weight k le p =
      elim (cases_lt p nodes) [
        | inl here ↦ laws.height_same _ _ (after_rounds-fits k p) (after_rounds-fits (suc k) p) (m.grows (after_rounds step first k) p)
            (let same = sum_below-same (λ q. l.height (after_rounds step first k q)) (λ q. l.height (after_rounds step first (suc k) q)) nodes (λ q _. height-grows k q) le p here in omega arith)
        | inr past ↦ sym (m.beyond (after_rounds step first k) p past)
      ]

  stable-next : (k : ℕ) → IsStable k → IsStable (suc k)
  unfolding IsStable
  stable-next k h p = ap (λ (a : ℕ → L). step a p) (λ i q. h q i)

  stable-or-heavy : (k : ℕ) → IsStable k ⊎ (k < weight (suc k))
  stable-or-heavy zero =
      elim (cases_lt (weight 0) (weight (suc 0))) [ inl more ↦ inr (omega arith) | inr same ↦ inl (stable-weight 0 same) ]
  stable-or-heavy (suc k) =
      elim (stable-or-heavy k) [
        | inl stable ↦ inl (stable-next k stable)
        | inr heavy ↦ elim (cases_lt (weight (suc k)) (weight (suc (suc k)))) [ inl more ↦ inr (omega arith) | inr same ↦ inl (stable-weight (suc k) same) ]
      ]

  stable-end : IsStable (suc (l.most * nodes))
  stable-end =
      elim (stable-or-heavy (l.most * nodes)) [
        | inl stable ↦ stable-next (l.most * nodes) stable
        | inr heavy ↦ absurd (omega (arith, weight-most (suc (l.most * nodes))))
      ]

  end-least : IsLeast l step first (after_rounds step first (suc (l.most * nodes)))
  unfolding IsStable
  end-least = record {
    holds_first = first-below (suc (l.most * nodes));
    closed = λ p. sym (stable-end p);
    least = λ b holds closed. after_rounds-below b holds closed (suc (l.most * nodes));
  }

  least_of-end : least_of l nodes step first ≡ after_rounds step first (suc (l.most * nodes))
  unfolding least_of
  least_of-end = λ i p. ap (λ k. after_rounds step first k p) (add-one (l.most * nodes)) i

  pub least-solution : IsLeast l step first (least_of l nodes step first)
  least-solution = subst (IsLeast l step first) (sym least_of-end) end-least

  pub least-fits : (p : ℕ) → IsTrue (l.fits (least_of l nodes step first p))
  least-fits p = subst (λ (a : ℕ → L). IsTrue (l.fits (a p))) (sym least_of-end) (after_rounds-fits (suc (l.most * nodes)) p)
