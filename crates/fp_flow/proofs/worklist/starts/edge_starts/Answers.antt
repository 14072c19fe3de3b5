use Rattle.std.proofs.Common.{◌<◌, ◌≤◌, ℕ, length, slice_index_or, inl, inr, arith}
use Rattle.std.proofs.lemmas.Bool.{cases_lt}
use Rattle.std.proofs.lemmas.List.{length_push}
use Rattle.fp_facts.specs.Dataflow.{Edge}
use Rattle.fp_flow.proofs.Ranges.{ascending-at, pushed-at}
use Rattle.fp_flow.proofs.worklist.starts.edge_starts.Goals as goal

pub loop-node-preserved : goal.loop-node-preserved
loop-node-preserved c =
    let edges = c.args.edges.now in
    let node = c.loop-node.node in
    let starts = c.loop-node.starts.items in
    let at = c.skip_below-at.result in
    let known = c.loop-node.invariant in
    let skip = c.skip_below-at.ensures in
    let below : (i : ℕ) (e : Edge) → i < at → (slice_index_or edges i e).0 < node =
    λ i e lt. elim (cases_lt i c.loop-node.at) [ inl early ↦ known.passed i e early | inr late ↦ skip.below i e late lt ] in
    let above : (i : ℕ) (e : Edge) → at ≤ i → i < length edges → node ≤ (slice_index_or edges i e).0 =
    λ i e le lt. omega (arith, ascending-at edges c.requires at i e le lt, skip.stops e (omega arith)) in
    rw c.in_ok-push.ensures.items (record {
      long = omega (arith, length_push starts at, known.long);
      at_within = skip.within;
      passed = λ i e lt. omega (arith, below i e lt);
      within = pushed-at (λ n s. s ≤ length edges) starts node at known.long known.within skip.within;
      before = λ n i e lt. pushed-at (λ n s. (i : ℕ) (e : Edge) → i < s → (slice_index_or edges i e).0 < n) starts node at known.long (λ n lt i e. known.before n i e lt) below n lt i e;
      after = λ n i e lt. pushed-at (λ n s. (i : ℕ) (e : Edge) → s ≤ i → i < length edges → n ≤ (slice_index_or edges i e).0) starts node at known.long (λ n lt i e. known.after n i e lt) above n lt i e;
    })
