-- Two dataflow problems, of which one is the other seen through a function of labels, have solutions of which the same holds.
use Rattle.std.proofs.Common.{◌≡◌, ◌+◌, ◌*◌, ◌==◌, ℕ, Bool, true, false, List, [], ◌∷◌, cond, refl, sym, ap, ◌∙◌, arith, zero, suc}
use Rattle.fp_facts.specs.Lattices.{after_rounds, least_of}
use Rattle.fp_facts.specs.Dataflow.{Edge, Problem, arrived, flow_round, solution, IsLawful}
use Rattle.fp_facts.proofs.Flows.{same_as_solution, solution-least}

-- ---- a problem whose solution takes more rounds

module _ {L : Type 0} (d : Problem L) (more : ℕ) where
  abbrev raised : Problem L
  raised = record {
    lattice = record { join = d.lattice.join; height = d.lattice.height; most = d.lattice.most + more; fits = d.lattice.fits };
    nodes = d.nodes;
    edges = d.edges;
    carry = d.carry;
    bottom = d.bottom;
    first = d.first;
  }

  raised-lawful : IsLawful d → IsLawful raised
  raised-lawful laws = record {
    lattice = record {
      associative = laws.lattice.associative;
      commutative = laws.lattice.commutative;
      idempotent = laws.lattice.idempotent;
      fits_join = laws.lattice.fits_join;
      height_most = λ x h. omega (arith, laws.lattice.height_most x h);
      height_grows = laws.lattice.height_grows;
      height_same = laws.lattice.height_same;
    };
    fits = laws.fits;
    monotone = laws.monotone;
    edges_within = laws.edges_within;
    first_fits = laws.first_fits;
    first_within = laws.first_within;
  }

  -- it changes nothing more
  raised-solution : IsLawful d → solution raised ≡ solution d
  raised-solution laws =
      let long = solution-least raised (raised-lawful laws) in
      let short = solution-least d laws in
      same_as_solution d laws (solution raised) long.holds_first long.settled (long.least (solution d) short.holds_first short.settled)

-- ---- two problems

chosen-mapped : {L M : Type 0} (f : L → M) (t : Bool) (x y : L) (v w : M) → f x ≡ v → f y ≡ w → f (cond t x y) ≡ cond t v w
chosen-mapped f true x y v w h k = h
chosen-mapped f false x y v w h k = k

module _ {L M : Type 0} (d : Problem L) (e : Problem M) (f : L → M)
    (joins : (x y : L) → f (d.lattice.join x y) ≡ e.lattice.join (f x) (f y))
    (carries : (edge : Edge) (x : L) → f (d.carry edge x) ≡ e.carry edge (f x))
    (starts : (p : ℕ) → f (d.first p) ≡ e.first p)
    (same_edges : d.edges ≡ e.edges) where
  arrived-mapped : (es : List Edge) (a : ℕ → L) (p : ℕ) → f (arrived d es a p) ≡ arrived e es (λ q. f (a q)) p
  arrived-mapped [] a p = refl
  arrived-mapped (edge ∷ es) a p =
      let rest = arrived-mapped es a p in
      chosen-mapped f (edge.1 == p) (d.lattice.join (arrived d es a p) (d.carry edge (a edge.0))) (arrived d es a p) _ _
      (joins (arrived d es a p) (d.carry edge (a edge.0)) ∙ ap (λ v. e.lattice.join v (f (d.carry edge (a edge.0)))) rest
      ∙ ap (λ v. e.lattice.join (arrived e es (λ q. f (a q)) p) v) (carries edge (a edge.0)))
      rest

  rounds-mapped : (k p : ℕ) → f (after_rounds (flow_round d) d.first k p) ≡ after_rounds (flow_round e) e.first k p
  rounds-mapped zero p = starts p
  rounds-mapped (suc k) p =
      arrived-mapped d.edges (after_rounds (flow_round d) d.first k) p
      ∙ ap (λ (a : ℕ → M). arrived e d.edges a p) (λ i q. rounds-mapped k q i)
      ∙ ap (λ es. arrived e es (after_rounds (flow_round e) e.first k) p) same_edges

  same-rounds : d.lattice.most * d.nodes + 1 ≡ e.lattice.most * e.nodes + 1 → (p : ℕ) → f (solution d p) ≡ solution e p
  unfolding solution least_of
  same-rounds same p = rounds-mapped (d.lattice.most * d.nodes + 1) p ∙ ap (λ k. after_rounds (flow_round e) e.first k p) same

module _ {L M : Type 0} (d : Problem L) (e : Problem M) (f : L → M)
    (joins : (x y : L) → f (d.lattice.join x y) ≡ e.lattice.join (f x) (f y))
    (carries : (edge : Edge) (x : L) → f (d.carry edge x) ≡ e.carry edge (f x))
    (starts : (p : ℕ) → f (d.first p) ≡ e.first p)
    (same_edges : d.edges ≡ e.edges) (same_nodes : d.nodes ≡ e.nodes) where
  pub solution-mapped : IsLawful d → IsLawful e → (p : ℕ) → f (solution d p) ≡ solution e p
  solution-mapped laws others p =
      let much : d.lattice.most + e.lattice.most ≡ e.lattice.most + d.lattice.most = omega arith in
      let same : (d.lattice.most + e.lattice.most) * d.nodes + 1 ≡ (e.lattice.most + d.lattice.most) * e.nodes + 1 =
      ap (λ n. n * d.nodes + 1) much ∙ ap (λ n. (e.lattice.most + d.lattice.most) * n + 1) same_nodes in
      ap (λ (a : ℕ → L). f (a p)) (sym (raised-solution d e.lattice.most laws))
      ∙ same-rounds (raised d e.lattice.most) (raised e d.lattice.most) f joins carries starts same_edges same p
      ∙ ap (λ (a : ℕ → M). a p) (raised-solution e d.lattice.most others)
