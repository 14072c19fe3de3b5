-- How following an edge, taking a node off the list and ending a visit keep what stands while a worklist is worked off.
use Rattle.std.proofs.Common.{◌≡◌, ◌<◌, ◌≤◌, ◌+◌, ◌-◌, ◌*◌, ◌++◌, ◌⊎◌, ℕ, ◌==◌, Bool, true, false, not, ◌||◌, IsTrue, List, [], ◌∷◌, All, length, slice_index, slice_index_or, slice_set, refl, sym, ap, subst, ◌∙◌, inl, inr, arith, mul_comm}
use Rattle.std.specs.List.{sum_by}
use Rattle.std.proofs.Math.ListN.{length-set}
use Rattle.std.proofs.lemmas.Bool.{cases_lt, cases_eq, eqb-true, false≢true}
use Rattle.std.proofs.lemmas.List.{get_or-set_same, get_or-set_other, get_or_default, set-get_or, length_push}
use Rattle.std.proofs.lemmas.List.Folds.{list_any-append}
use Rattle.std.proofs.lemmas.List.Elements.{All-from_get_or}
use Rattle.std.proofs.lemmas.List.Sums.{sum_by-set, sum_by-le}
use Rattle.fp_facts.specs.Lattices.{IsBelow, IsAllBelow}
use Rattle.fp_facts.specs.Dataflow.{Edge, Problem, solution, IsSettled, labels, IsLawful}
use Rattle.fp_facts.proofs.Orders.{below-refl, below-trans, below-join_left, below-join_right, join-below}
use Rattle.fp_facts.proofs.Flows.{solution-least, same_as_solution}
use Rattle.fp_flow.specs.Sent.{IsSent}
use Rattle.fp_flow.specs.Waiting.{is_listed}
use Rattle.fp_flow.specs.Working.{IsIndexed, IsWorking, IsFollowed, work_left}

-- the label of an edge's end, joined with what the edge carries there
joined : {L : Type 0} → Problem L → Edge → List L → L
joined d edge xs = d.lattice.join (labels d xs edge.1) (d.carry edge (labels d xs edge.0))

-- of the nodes on a list, one is taken and the others stay
pub listed-taken : (nodes rest : List ℕ) (node : ℕ) → nodes ≡ rest ++ node ∷ [] → (n : ℕ) → IsTrue (is_listed nodes n) → (n ≡ node) ⊎ IsTrue (is_listed rest n)
listed-taken nodes rest node is n listed =
    let split : (is_listed rest n || ((node == n) || false)) ≡ true = sym (list_any-append (λ m. m == n) rest (node ∷ [])) ∙ sym (ap (λ ns. is_listed ns n) is) ∙ listed in
    one_of (is_listed rest n) (node == n) split (λ here. sym (eqb-true node n here))
  where
    one_of : (a b : Bool) → (a || (b || false)) ≡ true → (b ≡ true → n ≡ node) → (n ≡ node) ⊎ IsTrue a
    one_of true b h k = inr refl
    one_of false true h k = inl (k refl)
    one_of false false h k = absurd (false≢true h)

module _ {L : Type 0} (d : Problem L) (laws : IsLawful d) where
  -- a label after the write is the one before or the joined one
  written-at : (P : ℕ → L → Type 0) (xs ys : List L) (q : ℕ) (v : L) → ys ≡ slice_set xs q v → q < length xs → ((p : ℕ) → P p (labels d xs p)) → P q v → (p : ℕ) → P p (labels d ys p)
  written-at P xs ys q v e lt old new p =
      subst (λ zs. P p (labels d zs p)) (sym e)
      (elim (cases_eq p q) [
        | inl same ↦ subst (λ r. P r (labels d (slice_set xs q v) r)) (sym same) (subst (P q) (sym (get_or-set_same xs q v d.bottom lt)) new)
        | inr other ↦ subst (P p) (sym (get_or-set_other xs q p v d.bottom other)) (old p)
      ])

  written-same : (xs ys : List L) (q : ℕ) (v : L) → ys ≡ slice_set xs q v → q < length xs → labels d ys q ≡ v
  written-same xs ys q v e lt = ap (λ zs. labels d zs q) e ∙ get_or-set_same xs q v d.bottom lt

  written-other : (xs ys : List L) (q : ℕ) (v : L) → ys ≡ slice_set xs q v → (p : ℕ) → (p ≡ q → ⊥) → labels d ys p ≡ labels d xs p
  written-other xs ys q v e p other = ap (λ zs. labels d zs p) e ∙ get_or-set_other xs q p v d.bottom other

  joined-fits : (edge : Edge) (xs : List L) → ((p : ℕ) → IsTrue (d.lattice.fits (labels d xs p))) → IsTrue (d.lattice.fits (joined d edge xs))
  unfolding joined
  joined-fits edge xs fits = laws.lattice.fits_join _ _ (fits edge.1) (laws.fits edge _ (fits edge.0))

  joined-within : (edge : Edge) (xs : List L) → IsAllBelow d.lattice (labels d xs) (solution d) → IsSettled d (solution d) edge → IsBelow d.lattice (joined d edge xs) (solution d edge.1)
  unfolding joined
  joined-within edge xs within settled =
      join-below d.lattice laws.lattice _ _ _ (within edge.1) (below-trans d.lattice laws.lattice _ (d.carry edge (solution d edge.0)) _ (laws.monotone edge _ _ (within edge.0)) settled)

  -- every label that doesn't change leaves an edge settled
  settled-kept : (edge : Edge) (xs ys : List L) → labels d ys edge.0 ≡ labels d xs edge.0 → IsAllBelow d.lattice (labels d xs) (labels d ys) → IsSettled d (labels d xs) edge → IsSettled d (labels d ys) edge
  settled-kept edge xs ys same rises settled =
      subst (λ x. IsBelow d.lattice (d.carry edge x) (labels d ys edge.1)) (sym same) (below-trans d.lattice laws.lattice _ (labels d xs edge.1) _ settled (rises edge.1))

  module _ (edge : Edge) (xs ys : List L) (nodes more : List ℕ) (f : IsFollowed d edge xs ys nodes more) (within : (edge.0 < length xs) × (edge.1 < length xs)) where
    followed-rises : IsAllBelow d.lattice (labels d xs) (labels d ys)
    unfolding joined
    followed-rises =
        written-at (λ p v. IsBelow d.lattice (labels d xs p) v) xs ys edge.1 (joined d edge xs) f.labels within.1
        (λ p. below-refl d.lattice laws.lattice _) (below-join_left d.lattice laws.lattice _ _)

    -- the edge itself
    followed-edge : IsTrue (is_listed more edge.0) ⊎ IsSettled d (labels d ys) edge
    unfolding joined
    followed-edge =
        let end : labels d ys edge.1 ≡ joined d edge xs = written-same xs ys edge.1 (joined d edge xs) f.labels within.1 in
        let settled : (labels d ys edge.0 ≡ labels d xs edge.0) → IsSettled d (labels d ys) edge =
        λ same. subst (λ x. IsBelow d.lattice (d.carry edge x) (labels d ys edge.1)) (sym same)
        (subst (λ v. IsBelow d.lattice (d.carry edge (labels d xs edge.0)) v) (sym end) (below-join_right d.lattice laws.lattice _ _)) in
        elim f.listed [
          | inl same ↦ inr (settled (ap (λ zs. labels d zs edge.0) same))
          | inr listed ↦ elim (cases_eq edge.0 edge.1) [
            | inl loop ↦ inl (subst (λ n. IsTrue (is_listed more n)) (sym loop) listed)
            | inr other ↦ inr (settled (written-other xs ys edge.1 (joined d edge xs) f.labels edge.0 other))
          ]
        ]

    -- another edge
    followed-other : (e : Edge) → IsTrue (is_listed nodes e.0) ⊎ IsSettled d (labels d xs) e → IsTrue (is_listed more e.0) ⊎ IsSettled d (labels d ys) e
    unfolding joined
    followed-other e before =
        elim before [
          | inl listed ↦ inl (f.kept e.0 listed)
          | inr settled ↦ elim f.listed [
            | inl same ↦ inr (settled-kept e xs ys (ap (λ zs. labels d zs e.0) same) followed-rises settled)
            | inr listed ↦ elim (cases_eq e.0 edge.1) [
              | inl here ↦ inl (subst (λ n. IsTrue (is_listed more n)) (sym here) listed)
              | inr other ↦ inr (settled-kept e xs ys (written-other xs ys edge.1 (joined d edge xs) f.labels e.0 other) followed-rises settled)
            ]
          ]
        ]

  -- following the edge at a place keeps what stands, one place further
  pub followed-working : (edge : Edge) (xs ys : List L) (nodes more : List ℕ) (node at : ℕ) → at < length d.edges → slice_index_or d.edges at edge ≡ edge →
      IsWorking d xs nodes node at → IsFollowed d edge xs ys nodes more → IsWorking d ys more node (at + 1)
  unfolding joined
  followed-working edge xs ys nodes more node at lt is w f =
      let ends : (edge.0 < d.nodes) × (edge.1 < d.nodes) = subst (λ (e : Edge). (e.0 < d.nodes) × (e.1 < d.nodes)) is (laws.edges_within at edge lt) in
      let within : (edge.0 < length xs) × (edge.1 < length xs) = (omega (arith, w.long, ends.0), omega (arith, w.long, ends.1)) in
      let least = solution-least d laws in
      let settled : IsSettled d (solution d) edge = subst (IsSettled d (solution d)) is (least.settled at edge lt) in
      record {
        long = ap length f.labels ∙ length-set xs edge.1 (joined d edge xs) ∙ w.long;
        fits = written-at (λ p v. IsTrue (d.lattice.fits v)) xs ys edge.1 (joined d edge xs) f.labels within.1 w.fits (joined-fits edge xs w.fits);
        first = λ p. below-trans d.lattice laws.lattice _ (labels d xs p) _ (w.first p) (followed-rises edge xs ys nodes more f within p);
        within = written-at (λ p v. IsBelow d.lattice v (solution d p)) xs ys edge.1 (joined d edge xs) f.labels within.1 w.within (joined-within edge xs w.within settled);
        settled = λ i e lt' from. elim (cases_eq i at) [
          | inl here ↦ subst (λ (k : Edge). IsTrue (is_listed more k.0) ⊎ IsSettled d (labels d ys) k)
              (sym (get_or_default d.edges i e edge lt' ∙ ap (λ k. slice_index_or d.edges k edge) here ∙ is)) (followed-edge edge xs ys nodes more f within)
          | inr other ↦ followed-other edge xs ys nodes more f within (slice_index_or d.edges i e) (w.settled i e lt' (λ start. let below = from start in omega (arith, below, other)))
        ];
      }

  -- after a whole visit no edge of the node is left out
  pub visited-working : (edges : List Edge) (xs : List L) (nodes starts : List ℕ) (node : ℕ) → edges ≡ d.edges → IsIndexed edges d.nodes starts → node < d.nodes →
      IsWorking d xs nodes node (slice_index starts (node + 1)) → IsWorking d xs nodes 0 (length d.edges)
  visited-working edges xs nodes starts node same indexed known w = record {
    long = w.long;
    fits = w.fits;
    first = w.first;
    within = w.within;
    settled = λ i e lt from. w.settled i e lt (λ start. elim (cases_lt i (slice_index starts (node + 1))) [
      | inl below ↦ below
      | inr past ↦ absurd (
          let after = indexed.after (node + 1) i e (omega arith) past (subst (λ (es : List Edge). i < length es) (sym same) lt) in
          let here : (slice_index_or edges i e).0 ≡ node = ap (λ (es : List Edge). (slice_index_or es i e).0) same ∙ start in
          omega (arith, after, here))
    ]);
  }

  -- a node that is taken off the list is visited from its first edge on
  pub taken-working : (edges : List Edge) (xs : List L) (nodes rest starts : List ℕ) (node : ℕ) → edges ≡ d.edges → IsIndexed edges d.nodes starts → node < d.nodes →
      ((n : ℕ) → IsTrue (is_listed nodes n) → (n ≡ node) ⊎ IsTrue (is_listed rest n)) →
      IsWorking d xs nodes 0 (length d.edges) → IsWorking d xs rest node (slice_index starts node)
  taken-working edges xs nodes rest starts node same indexed known still w = record {
    long = w.long;
    fits = w.fits;
    first = w.first;
    within = w.within;
    settled = λ i e lt from. elim (w.settled i e lt (λ _. lt)) [
      | inr settled ↦ inr settled
      | inl listed ↦ elim (still _ listed) [
        | inr stays ↦ inl stays
        | inl start ↦ absurd (
            let before = indexed.before node i e (omega arith) (from start) in
            let here : (slice_index_or edges i e).0 ≡ node = ap (λ (es : List Edge). (slice_index_or es i e).0) same ∙ start in
            omega (arith, before, here))
      ]
    ];
  }

  -- the first labels, with every node on the list
  pub first-working : (xs : List L) (nodes : List ℕ) → length xs ≡ d.nodes → labels d xs ≡ d.first → ((n : ℕ) → n < d.nodes → IsTrue (is_listed nodes n)) → IsWorking d xs nodes 0 (length d.edges)
  first-working xs nodes long first all = record {
    long = long;
    fits = λ p. subst (λ (a : ℕ → L). IsTrue (d.lattice.fits (a p))) (sym first) (laws.first_fits p);
    first = λ p. subst (λ (a : ℕ → L). IsBelow d.lattice (d.first p) (a p)) (sym first) (below-refl d.lattice laws.lattice (d.first p));
    within = λ p. subst (λ (a : ℕ → L). IsBelow d.lattice (a p) (solution d p)) (sym first) ((solution-least d laws).holds_first p);
    settled = λ i e lt from. inl (all _ (laws.edges_within i e lt).0);
  }

  -- with no node left, the labels are the solution
  pub worked_off : (xs : List L) (nodes : List ℕ) (node : ℕ) → nodes ≡ [] → IsWorking d xs nodes node (length d.edges) → labels d xs ≡ solution d
  worked_off xs nodes node none w =
      same_as_solution d laws (labels d xs) w.first
      (λ i e lt. elim (w.settled i e lt (λ _. lt)) [
        | inr settled ↦ settled
        | inl listed ↦ absurd (false≢true (subst (λ (ns : List ℕ). is_listed ns (slice_index_or d.edges i e).0 ≡ true) none listed))
      ]) w.within

  heights : List L → ℕ
  heights xs = sum_by d.lattice.height xs

  heights-most : (xs : List L) → length xs ≡ d.nodes → ((p : ℕ) → IsTrue (d.lattice.fits (labels d xs p))) → heights xs ≤ d.lattice.most * d.nodes
  unfolding heights
  heights-most xs long fits =
      let each : All (λ x. d.lattice.height x ≤ d.lattice.most) xs = All-from_get_or (λ x. d.lattice.height x ≤ d.lattice.most) xs d.bottom (λ i lt. laws.lattice.height_most _ (fits i)) in
      let sum : heights xs ≤ length xs * d.lattice.most = sum_by-le d.lattice.height d.lattice.most xs each in
      let same : length xs * d.lattice.most ≡ d.lattice.most * d.nodes = ap (λ n. n * d.lattice.most) long ∙ mul_comm d.nodes d.lattice.most in
      omega (arith, sum, same)

  -- a label that changes rises
  joined-rises : (edge : Edge) (xs : List L) → ((p : ℕ) → IsTrue (d.lattice.fits (labels d xs p))) → (joined d edge xs ≡ labels d xs edge.1 → ⊥) → d.lattice.height (labels d xs edge.1) < d.lattice.height (joined d edge xs)
  unfolding joined
  joined-rises edge xs fits changed =
      elim (cases_lt (d.lattice.height (labels d xs edge.1)) (d.lattice.height (joined d edge xs))) [
        | inl less ↦ less
        | inr most ↦ absurd (changed (sym (laws.lattice.height_same _ _ (fits edge.1) (joined-fits edge xs fits) (below-join_left d.lattice laws.lattice _ _) most)))
      ]

  -- a changed label takes more off than its node puts on
  changed-less : (edge : Edge) (xs ys : List L) (nodes more : List ℕ) → edge.1 < length xs → length xs ≡ d.nodes → ((p : ℕ) → IsTrue (d.lattice.fits (labels d xs p))) →
      ys ≡ slice_set xs edge.1 (joined d edge xs) → (joined d edge xs ≡ labels d xs edge.1 → ⊥) → length more ≤ length nodes + 1 → work_left d ys more ≤ work_left d xs nodes
  unfolding work_left heights
  changed-less edge xs ys nodes more lt long fits write changed one =
      let rises = joined-rises edge xs fits changed in
      let sum : heights (slice_set xs edge.1 (joined d edge xs)) + d.lattice.height (labels d xs edge.1) ≡ heights xs + d.lattice.height (joined d edge xs) =
      sum_by-set d.lattice.height xs edge.1 (joined d edge xs) d.bottom lt in
      let after : heights ys ≡ heights (slice_set xs edge.1 (joined d edge xs)) = ap heights write in
      let most : heights ys ≤ d.lattice.most * d.nodes =
      heights-most ys (ap length write ∙ length-set xs edge.1 (joined d edge xs) ∙ long)
      (written-at (λ p v. IsTrue (d.lattice.fits v)) xs ys edge.1 (joined d edge xs) write lt fits (joined-fits edge xs fits)) in
      less-left (d.lattice.most * d.nodes) (heights xs) (heights ys) (length nodes) (length more) (omega (arith, rises, sum, after)) most one
    where
      less-left : (all old new few more : ℕ) → old < new → new ≤ all → more ≤ few + 1 → 2 * (all - new) + more ≤ 2 * (all - old) + few
      less-left all old new few more lt le one = omega arith

  -- each node that is taken makes the list shorter
  pub taken-less : (xs : List L) (nodes rest : List ℕ) (node left : ℕ) → nodes ≡ rest ++ node ∷ [] → left ≤ work_left d xs rest → left < work_left d xs nodes
  unfolding work_left
  taken-less xs nodes rest node left is le =
      let one : length nodes ≡ length rest + 1 = ap length is ∙ length_push rest node in
      omega (arith, one, le)

  -- following an edge, by whether its end's label changed
  pub followed-unchanged : (edge : Edge) (xs ys : List L) (nodes : List ℕ) (v : L) → edge.1 < length xs → ys ≡ slice_set xs edge.1 v → v ≡ labels d xs edge.1 → v ≡ d.lattice.join (labels d xs edge.1) (d.carry edge (labels d xs edge.0)) → IsFollowed d edge xs ys nodes nodes
  unfolding joined
  followed-unchanged edge xs ys nodes v lt write same is =
      let whole : ys ≡ xs = write ∙ ap (λ x. slice_set xs edge.1 x) same ∙ set-get_or xs edge.1 d.bottom in
      record {
        labels = write ∙ ap (λ x. slice_set xs edge.1 x) is;
        kept = λ n h. h;
        listed = inl whole;
        less = subst (λ (zs : List L). work_left d zs nodes ≤ work_left d xs nodes) (sym whole) (omega arith);
      }

  pub followed-changed : (edge : Edge) (xs ys : List L) (nodes more : List ℕ) (from label old v : L) → edge.1 < length xs → length xs ≡ d.nodes → ((p : ℕ) → IsTrue (d.lattice.fits (labels d xs p))) →
      from ≡ labels d xs edge.0 → label ≡ d.carry edge from → old ≡ labels d xs edge.1 → v ≡ d.lattice.join old label → (v ≡ old → ⊥) → ys ≡ slice_set xs edge.1 v →
      ((n : ℕ) → IsTrue (is_listed nodes n) → IsTrue (is_listed more n)) → IsTrue (is_listed more edge.1) → length more ≤ length nodes + 1 → IsFollowed d edge xs ys nodes more
  unfolding joined
  followed-changed edge xs ys nodes more from label old v lt long fits from_is label_is old_is v_is changed write kept listed one =
      let is : v ≡ joined d edge xs = v_is ∙ ap (λ x. d.lattice.join x label) old_is ∙ ap (λ x. d.lattice.join (labels d xs edge.1) x) (label_is ∙ ap (λ x. d.carry edge x) from_is) in
      let whole : ys ≡ slice_set xs edge.1 (joined d edge xs) = write ∙ ap (λ x. slice_set xs edge.1 x) is in
      record {
        labels = whole;
        kept = kept;
        listed = inr listed;
        less = changed-less edge xs ys nodes more lt long fits whole (λ e. changed (is ∙ e ∙ sym old_is)) one;
      }

  -- what a node sends goes along each of its edges
  pub sent-on : (edge : Edge) (before label : L) → not edge.2 ≡ true → IsSent d false edge.0 before label → label ≡ d.carry edge before
  sent-on edge before label is sent = sent edge.1 ∙ ap (λ b. d.carry (edge.0, edge.1, b) before) (sym (turned edge.2 is))
    where
      turned : (b : Bool) → not b ≡ true → b ≡ false
      turned true h = sym h
      turned false h = refl

  pub sent-caught : (edge : Edge) (before label : L) → not edge.2 ≡ false → IsSent d true edge.0 before label → label ≡ d.carry edge before
  sent-caught edge before label is sent = sent edge.1 ∙ ap (λ b. d.carry (edge.0, edge.1, b) before) (sym (turned edge.2 is))
    where
      turned : (b : Bool) → not b ≡ false → b ≡ true
      turned true h = refl
      turned false h = sym h

  -- a node on the list needs no further edge
  pub listed-working : (xs : List L) (nodes : List ℕ) (node at to : ℕ) → IsTrue (is_listed nodes node) → IsWorking d xs nodes node at → IsWorking d xs nodes node to
  listed-working xs nodes node at to listed w = record {
    long = w.long;
    fits = w.fits;
    first = w.first;
    within = w.within;
    settled = λ i e lt from. elim (cases_eq (slice_index_or d.edges i e).0 node) [
      | inl here ↦ inl (subst (λ n. IsTrue (is_listed nodes n)) (sym here) listed)
      | inr other ↦ w.settled i e lt (λ start. absurd (other start))
    ];
  }

  -- the edges of a node start there
  pub own-edge : (edges : List Edge) (starts : List ℕ) (node place : ℕ) (e : Edge) → IsIndexed edges d.nodes starts → node < d.nodes →
      slice_index starts node ≤ place → place < slice_index starts (node + 1) → (slice_index_or edges place e).0 ≡ node
  own-edge edges starts node place e indexed known from lt =
      let within : place < length edges = omega (arith, indexed.within (node + 1) (omega arith), lt) in
      omega (arith, indexed.after node place e (omega arith) from within, indexed.before (node + 1) place e (omega arith) lt)
