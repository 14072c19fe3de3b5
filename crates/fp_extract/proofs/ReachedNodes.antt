-- The solution of the problem which nodes are reached.
use Rattle.std.proofs.Common.{◌≡◌, ◌==◌, ◌<◌, ℕ, zero, suc, Bool, true, false, List, All, slice_index_or, slice_set, replicate, refl, sym, ap, ◌∙◌, arith}
use Rattle.std.proofs.lemmas.Bool.{ne_eqb}
use Rattle.fp_facts.specs.Dataflow.{Edge, IsLawful, labels, solution}
use Rattle.fp_facts.proofs.ReachedFlows.{passes-reaches, reaches-passes}
use Rattle.fp_facts.proofs.SmallLattices.{bools-lattice}
use Rattle.fp_extract.specs.SeedGraph.{AreReached, reach_problem}

-- ---- the first labels

unset : (nodes p : ℕ) → slice_index_or (replicate nodes false) p false ≡ false
unset zero p = refl
unset (suc nodes) zero = refl
unset (suc nodes) (suc p) = unset nodes p

first-at : (nodes p : ℕ) → 0 < nodes → slice_index_or (slice_set (replicate nodes false) 0 true) p false ≡ (p == 0)
first-at zero p some = absurd (omega (arith, some))
first-at (suc nodes) zero some = refl
first-at (suc nodes) (suc p) some = unset nodes p ∙ sym (ne_eqb (suc p) 0 (λ is. omega arith))

pub first-labels : (nodes : ℕ) (edges : List Edge) (items : List Bool) → 0 < nodes → items ≡ replicate nodes false → labels (reach_problem nodes edges) (slice_set items 0 true) ≡ (reach_problem nodes edges).first
first-labels nodes edges items some is = λ i p. (ap (λ l. slice_index_or (slice_set l 0 true) p false) is ∙ first-at nodes p some) i

-- ---- the problem and its solution

pub reach-lawful : (nodes : ℕ) (edges : List Edge) → 0 < nodes → All (λ e. (e.0 < nodes) × (e.1 < nodes)) edges → IsLawful (reach_problem nodes edges)
reach-lawful nodes edges some within = record {
  lattice = bools-lattice;
  fits = λ _ _ _. refl;
  monotone = λ _ _ _ below. below;
  edges_within = within;
  first_fits = λ _. refl;
  first_within = λ p past. ne_eqb p 0 (λ is. omega (arith, past, some, is));
}

pub reached-nodes : (nodes : ℕ) (edges : List Edge) (flags : List Bool) → 0 < nodes → All (λ e. (e.0 < nodes) × (e.1 < nodes)) edges → labels (reach_problem nodes edges) flags ≡ solution (reach_problem nodes edges) → AreReached edges flags
reached-nodes nodes edges flags some within same =
    let d = reach_problem nodes edges in
    record {
      marked = λ p reached. ap (λ (f : ℕ → Bool). f p) same
          ∙ reaches-passes d (λ (x : Bool). x) (λ x y. refl) (λ e x. refl) (λ p. refl) some (omega arith) within p reached;
      reaches = λ p h. passes-reaches d (λ (x : Bool). x) (λ x y. refl) (λ e x. refl) (λ p. refl) p (sym (ap (λ (f : ℕ → Bool). f p) same) ∙ h);
    }
