-- The solution of a dataflow problem is the least labelling that its edges leave.
use Rattle.std.proofs.Common.{◌≡◌, ◌<◌, ◌≤◌, ◌==◌, ℕ, Bool, true, false, IsTrue, List, [], ◌∷◌, All, cond, refl, sym, subst, arith}
use Rattle.std.proofs.lemmas.Bool.{cond_both, eqb-true, eq-eqb}
use Rattle.std.proofs.lemmas.List.Elements.{All-nil, All-cons, All-head, All-tail, All-weaker}
use Rattle.fp_facts.specs.Lattices.{Lattice, IsLattice, IsBelow, IsAllBelow, IsMonotoneStep, IsLeast, least_of}
use Rattle.fp_facts.specs.Dataflow.{Edge, Problem, arrived, flow_round, solution, IsSettled, IsLawful, IsLeastFlow}
use Rattle.fp_facts.proofs.Orders.{below-refl, below-trans, below-join_left, below-join_right, join-below, join-grows, all_below-antisym}
use Rattle.fp_facts.proofs.Rounds.{least-solution, least-fits}

below-if : {L : Type 0} (l : Lattice L) (t : Bool) (x y v w : L) → IsBelow l x v → IsBelow l y w → IsBelow l (cond t x y) (cond t v w)
below-if l true x y v w h k = h
below-if l false x y v w h k = k

module _ {L : Type 0} (d : Problem L) (laws : IsLattice d.lattice) where
  arrived-more : (e : Edge) (es : List Edge) (a : ℕ → L) (p : ℕ) → IsBelow d.lattice (arrived d es a p) (arrived d (e ∷ es) a p)
  arrived-more e es a p =
      cond_both (e.1 == p) (d.lattice.join (arrived d es a p) (d.carry e (a e.0))) (arrived d es a p) (IsBelow d.lattice (arrived d es a p))
      (λ _. below-join_left d.lattice laws (arrived d es a p) _)
      (λ _. below-refl d.lattice laws _)

  arrived-above : (es : List Edge) (a : ℕ → L) (p : ℕ) → IsBelow d.lattice (a p) (arrived d es a p)
  arrived-above [] a p = below-refl d.lattice laws (a p)
  arrived-above (e ∷ es) a p = below-trans d.lattice laws (a p) (arrived d es a p) _ (arrived-above es a p) (arrived-more e es a p)

  arrived-here : (e : Edge) (es : List Edge) (a : ℕ → L) → IsBelow d.lattice (d.carry e (a e.0)) (arrived d (e ∷ es) a e.1)
  arrived-here e es a =
      subst (λ t. IsBelow d.lattice (d.carry e (a e.0)) (cond t (d.lattice.join (arrived d es a e.1) (d.carry e (a e.0))) (arrived d es a e.1))) (sym (eq-eqb e.1 e.1 refl))
      (below-join_right d.lattice laws (arrived d es a e.1) (d.carry e (a e.0)))

  -- each edge is settled at what arrives
  arrived-settled : (es : List Edge) (a : ℕ → L) → All (λ e. IsBelow d.lattice (d.carry e (a e.0)) (arrived d es a e.1)) es
  arrived-settled [] a = All-nil (λ e. IsBelow d.lattice (d.carry e (a e.0)) (arrived d [] a e.1))
  arrived-settled (e ∷ es) a =
      All-cons (λ f. IsBelow d.lattice (d.carry f (a f.0)) (arrived d (e ∷ es) a f.1)) e es (arrived-here e es a)
      (All-weaker (λ f. IsBelow d.lattice (d.carry f (a f.0)) (arrived d es a f.1)) (λ f. IsBelow d.lattice (d.carry f (a f.0)) (arrived d (e ∷ es) a f.1))
      (λ f h. below-trans d.lattice laws _ (arrived d es a f.1) _ h (arrived-more e es a f.1)) es (arrived-settled es a))

  arrived-below : (es : List Edge) (a : ℕ → L) (p : ℕ) (x : L) → IsBelow d.lattice (a p) x → All (λ e. e.1 ≡ p → IsBelow d.lattice (d.carry e (a e.0)) x) es → IsBelow d.lattice (arrived d es a p) x
  arrived-below [] a p x h all = h
  arrived-below (e ∷ es) a p x h all =
      let P : Edge → Type 0 = λ f. f.1 ≡ p → IsBelow d.lattice (d.carry f (a f.0)) x in
      let rest : IsBelow d.lattice (arrived d es a p) x = arrived-below es a p x h (All-tail P e es all) in
      cond_both (e.1 == p) (d.lattice.join (arrived d es a p) (d.carry e (a e.0))) (arrived d es a p) (λ v. IsBelow d.lattice v x)
      (λ here. join-below d.lattice laws _ _ x rest (All-head P e es all (eqb-true e.1 p here)))
      (λ _. rest)

  arrived-beyond : (es : List Edge) (a : ℕ → L) (p : ℕ) → All (λ e. (e.0 < d.nodes) × (e.1 < d.nodes)) es → d.nodes ≤ p → arrived d es a p ≡ a p
  arrived-beyond [] a p all past = refl
  arrived-beyond (e ∷ es) a p all past =
      let P : Edge → Type 0 = λ f. (f.0 < d.nodes) × (f.1 < d.nodes) in
      cond_both (e.1 == p) (d.lattice.join (arrived d es a p) (d.carry e (a e.0))) (arrived d es a p) (λ v. v ≡ a p)
      (λ here. let within = All-head P e es all in absurd (omega (arith, within.1, eqb-true e.1 p here)))
      (λ _. arrived-beyond es a p (All-tail P e es all) past)

module _ {L : Type 0} (d : Problem L) (laws : IsLawful d) where
  arrived-fits : (es : List Edge) (a : ℕ → L) → ((p : ℕ) → IsTrue (d.lattice.fits (a p))) → (p : ℕ) → IsTrue (d.lattice.fits (arrived d es a p))
  arrived-fits [] a h p = h p
  arrived-fits (e ∷ es) a h p =
      cond_both (e.1 == p) (d.lattice.join (arrived d es a p) (d.carry e (a e.0))) (arrived d es a p) (λ v. IsTrue (d.lattice.fits v))
      (λ _. laws.lattice.fits_join _ _ (arrived-fits es a h p) (laws.fits e (a e.0) (h e.0)))
      (λ _. arrived-fits es a h p)

  arrived-grows : (es : List Edge) (a b : ℕ → L) → IsAllBelow d.lattice a b → (p : ℕ) → IsBelow d.lattice (arrived d es a p) (arrived d es b p)
  arrived-grows [] a b h p = h p
  arrived-grows (e ∷ es) a b h p =
      below-if d.lattice (e.1 == p) _ _ _ _
      (join-grows d.lattice laws.lattice _ _ _ _ (arrived-grows es a b h p) (laws.monotone e (a e.0) (b e.0) (h e.0)))
      (arrived-grows es a b h p)

  round-monotone : IsMonotoneStep d.lattice d.nodes (flow_round d) d.first
  round-monotone = record {
    first_fits = laws.first_fits;
    fits = λ a h. arrived-fits d.edges a h;
    grows = λ a. arrived-above d laws.lattice d.edges a;
    monotone = λ a b h. arrived-grows d.edges a b h;
    beyond = λ a p past. arrived-beyond d laws.lattice d.edges a p laws.edges_within past;
  }

  -- no round raises what is settled
  settled-below : (a : ℕ → L) → All (IsSettled d a) d.edges → IsAllBelow d.lattice (flow_round d a) a
  settled-below a settled p =
      arrived-below d laws.lattice d.edges a p (a p) (below-refl d.lattice laws.lattice (a p))
      (All-weaker (IsSettled d a) (λ e. e.1 ≡ p → IsBelow d.lattice (d.carry e (a e.0)) (a p))
      (λ e h here. subst (λ q. IsBelow d.lattice (d.carry e (a e.0)) (a q)) here h) d.edges settled)

  -- what a round leaves is settled
  closed-settled : (a : ℕ → L) → ((p : ℕ) → flow_round d a p ≡ a p) → All (IsSettled d a) d.edges
  closed-settled a closed =
      All-weaker (λ e. IsBelow d.lattice (d.carry e (a e.0)) (arrived d d.edges a e.1)) (IsSettled d a)
      (λ e h. subst (λ v. IsBelow d.lattice (d.carry e (a e.0)) v) (closed e.1) h) d.edges (arrived-settled d laws.lattice d.edges a)

  pub solution-least : IsLeastFlow d (solution d)
  unfolding solution
  solution-least =
      let least : IsLeast d.lattice (flow_round d) d.first (least_of d.lattice d.nodes (flow_round d) d.first) = least-solution d.lattice laws.lattice d.nodes (flow_round d) d.first round-monotone in
      record {
        holds_first = least.holds_first;
        settled = closed-settled (least_of d.lattice d.nodes (flow_round d) d.first) least.closed;
        least = λ b holds settled. least.least b holds (settled-below b settled);
      }

  pub solution-fits : (p : ℕ) → IsTrue (d.lattice.fits (solution d p))
  unfolding solution
  solution-fits p = least-fits d.lattice laws.lattice d.nodes (flow_round d) d.first round-monotone p

  pub same_as_solution : (a : ℕ → L) → IsAllBelow d.lattice d.first a → All (IsSettled d a) d.edges → IsAllBelow d.lattice a (solution d) → a ≡ solution d
  same_as_solution a holds settled within = all_below-antisym d.lattice laws.lattice a (solution d) within (solution-least.least a holds settled)
