-- The labels of a solution that pass a test, where nodes that are reached alone pass it, stand where edges lead from node 0.
use Rattle.std.proofs.Common.{◌≡◌, ◌<◌, ◌≤◌, ◌+◌, ◌*◌, ◌-◌, ◌==◌, ◌||◌, ℕ, Bool, true, false, List, [], ◌∷◌, All, slice_index_or, cond, refl, sym, ap, subst, ◌∙◌, inl, inr, arith, zero, suc}
use Rattle.std.proofs.lemmas.Bool.{cond_both, eqb-true, ne_eqb, or_cases, or_left}
use Rattle.std.proofs.lemmas.List.Elements.{All-head, All-tail}
use Rattle.std.proofs.Math.Bool.{or_assoc, or_comm}
use Rattle.std.proofs.Math.Nat.{mul-le-mul_right}
use Rattle.fp_facts.specs.Lattices.{Lattice, IsLattice, after_rounds, least_of}
use Rattle.fp_facts.specs.Dataflow.{Edge, Problem, arrived, flow_round, solution, IsLawful, Reaches}
use Rattle.fp_facts.specs.Dataflow.Reaches.{start, along}
use Rattle.fp_facts.proofs.Flows.{solution-least}
use Rattle.fp_facts.proofs.Reached.{reaches-kept}

-- ---- the flow of tests

bool_height : Bool → ℕ
bool_height true = 1
bool_height false = 0

abbrev bools : Lattice Bool
bools = record { join = ◌||◌; height = bool_height; most = 1; fits = λ _. true }

or-idem : (x : Bool) → (x || x) ≡ x
or-idem true = refl
or-idem false = refl

height-within : (x : Bool) → bool_height x ≤ 1
unfolding bool_height
height-within true = omega arith
height-within false = omega arith

height-grows : (x y : Bool) → (x || y) ≡ y → bool_height x ≤ bool_height y
unfolding bool_height
height-grows true true below = omega arith
height-grows true false below = absurd cc
height-grows false y below = omega arith

height-same : (x y : Bool) → (x || y) ≡ y → bool_height y ≤ bool_height x → x ≡ y
unfolding bool_height
height-same true y below le = below
height-same false true below le = absurd (omega arith)
height-same false false below le = refl

bools-lattice : IsLattice bools
bools-lattice = record {
  associative = or_assoc;
  commutative = or_comm;
  idempotent = or-idem;
  fits_join = λ _ _ _ _. refl;
  height_most = λ x _. height-within x;
  height_grows = λ x y _ _ below. height-grows x y below;
  height_same = λ x y _ _ below le. height-same x y below le;
}

abbrev tests : ℕ → List Edge → Problem Bool
tests nodes edges = record { lattice = bools; nodes = nodes; edges = edges; carry = λ _ x. x; bottom = false; first = λ p. p == 0 }

module _ (nodes : ℕ) (edges : List Edge) (some : 0 < nodes) (within : All (λ e. (e.0 < nodes) × (e.1 < nodes)) edges) where
  tests-lawful : IsLawful (tests nodes edges)
  tests-lawful = record {
    lattice = bools-lattice;
    fits = λ _ _ _. refl;
    monotone = λ _ _ _ below. below;
    edges_within = within;
    first_fits = λ _. refl;
    first_within = λ p past. ne_eqb p 0 (λ is. omega arith);
  }

  reaches-passed : (p : ℕ) → Reaches edges p → solution (tests nodes edges) p ≡ true
  reaches-passed =
      let least = solution-least (tests nodes edges) tests-lawful in
      reaches-kept edges (λ p. solution (tests nodes edges) p ≡ true) (sym (least.holds_first 0))
      (λ k e in_edges passed. let settled = least.settled k e in_edges in
      sym (subst (λ v. (v || solution (tests nodes edges) (slice_index_or edges k e).1) ≡ solution (tests nodes edges) (slice_index_or edges k e).1) passed settled))

-- ---- its rounds

arrived-stays : (nodes : ℕ) (edges es : List Edge) (a : ℕ → Bool) (p : ℕ) → a p ≡ true → arrived (tests nodes edges) es a p ≡ true
arrived-stays nodes edges [] a p h = h
arrived-stays nodes edges (e ∷ es) a p h =
    cond_both (e.1 == p) (arrived (tests nodes edges) es a p || a e.0) (arrived (tests nodes edges) es a p) (λ v. v ≡ true)
    (λ _. or_left (arrived (tests nodes edges) es a p) (a e.0) (arrived-stays nodes edges es a p h))
    (λ _. arrived-stays nodes edges es a p h)

-- what arrives anew comes along an edge
arrived-from : (nodes : ℕ) (edges es : List Edge) (a : ℕ → Bool) (P : ℕ → Type 0) → ((q : ℕ) → a q ≡ true → P q) → All (λ e. P e.0 → P e.1) es →
    (p : ℕ) → arrived (tests nodes edges) es a p ≡ true → P p
arrived-from nodes edges [] a P known kept p h = known p h
arrived-from nodes edges (e ∷ es) a P known kept p h =
    let rest : arrived (tests nodes edges) es a p ≡ true → P p = arrived-from nodes edges es a P known (All-tail (λ f. P f.0 → P f.1) e es kept) p in
    cond_both (e.1 == p) (arrived (tests nodes edges) es a p || a e.0) (arrived (tests nodes edges) es a p) (λ v. v ≡ true → P p)
    (λ here g. elim (or_cases (arrived (tests nodes edges) es a p) (a e.0) g) [
      | inl before ↦ rest before
      | inr along_it ↦ subst P (eqb-true e.1 p here) (All-head (λ f. P f.0 → P f.1) e es kept (known e.0 along_it))
    ])
    (λ _. rest) h

module _ (nodes : ℕ) (edges : List Edge) where
  test_rounds : ℕ → ℕ → Bool
  test_rounds k p = after_rounds (flow_round (tests nodes edges)) (tests nodes edges).first k p

  passed-reaches : (k p : ℕ) → test_rounds k p ≡ true → Reaches edges p
  unfolding test_rounds
  passed-reaches zero p h = subst (Reaches edges) (sym (eqb-true p 0 h)) start
  passed-reaches (suc k) p h = arrived-from nodes edges edges (test_rounds k) (Reaches edges) (passed-reaches k) (λ i d in_edges from. along i d in_edges from) p h

  passed-later : (k j p : ℕ) → test_rounds k p ≡ true → test_rounds (j + k) p ≡ true
  unfolding test_rounds
  passed-later k zero p h = subst (λ n. test_rounds n p ≡ true) (let e : k ≡ 0 + k = omega arith in e) h
  passed-later k (suc j) p h =
      subst (λ n. test_rounds n p ≡ true) (let e : suc (j + k) ≡ suc j + k = omega arith in e)
      (arrived-stays nodes edges edges (test_rounds (j + k)) p (passed-later k j p h))

-- ---- a flow whose labels pass a test as nodes are reached

chosen-passes : {L : Type 0} (passes : L → Bool) (t : Bool) (x y : L) (v w : Bool) → passes x ≡ v → passes y ≡ w → passes (cond t x y) ≡ cond t v w
chosen-passes passes true x y v w h k = h
chosen-passes passes false x y v w h k = k

module _ {L : Type 0} (d : Problem L) (passes : L → Bool)
    (joins : (x y : L) → passes (d.lattice.join x y) ≡ (passes x || passes y))
    (carries : (e : Edge) (x : L) → passes (d.carry e x) ≡ passes x)
    (starts : (p : ℕ) → passes (d.first p) ≡ (p == 0)) where
  arrived-passes : (es : List Edge) (a : ℕ → L) (p : ℕ) → passes (arrived d es a p) ≡ arrived (tests d.nodes d.edges) es (λ q. passes (a q)) p
  arrived-passes [] a p = refl
  arrived-passes (e ∷ es) a p =
      let rest = arrived-passes es a p in
      chosen-passes passes (e.1 == p) (d.lattice.join (arrived d es a p) (d.carry e (a e.0))) (arrived d es a p) _ _
      (joins (arrived d es a p) (d.carry e (a e.0)) ∙ ap (λ v. v || passes (d.carry e (a e.0))) rest
      ∙ ap (λ v. arrived (tests d.nodes d.edges) es (λ q. passes (a q)) p || v) (carries e (a e.0)))
      rest

  rounds-pass : (k p : ℕ) → passes (after_rounds (flow_round d) d.first k p) ≡ test_rounds d.nodes d.edges k p
  unfolding test_rounds
  rounds-pass zero p = starts p
  rounds-pass (suc k) p =
      arrived-passes d.edges (after_rounds (flow_round d) d.first k) p
      ∙ ap (λ (a : ℕ → Bool). arrived (tests d.nodes d.edges) d.edges a p) (λ i q. rounds-pass k q i)

  pub passes-reaches : (p : ℕ) → passes (solution d p) ≡ true → Reaches d.edges p
  unfolding solution least_of
  passes-reaches p h =
      let rounds = d.lattice.most * d.nodes + 1 in passed-reaches d.nodes d.edges rounds p (sym (rounds-pass rounds p) ∙ h)

  pub reaches-passes : 0 < d.nodes → 1 ≤ d.lattice.most → All (λ e. (e.0 < d.nodes) × (e.1 < d.nodes)) d.edges → (p : ℕ) → Reaches d.edges p → passes (solution d p) ≡ true
  unfolding solution least_of test_rounds
  reaches-passes some high within p reached =
      let rounds = d.lattice.most * d.nodes + 1 in
      let enough = 1 * d.nodes + 1 in
      let more = mul-le-mul_right d.nodes high in
      let is : rounds - enough + enough ≡ rounds = omega arith in
      rounds-pass rounds p
      ∙ subst (λ n. test_rounds d.nodes d.edges n p ≡ true) is (passed-later d.nodes d.edges enough (rounds - enough) p (reaches-passed d.nodes d.edges some within p reached))
