use Rattle.std.proofs.Common.{◌≤◌, ◌<◌, ℕ, slice_index_or}
use Rattle.fp_facts.specs.Dataflow.{Edge}
use Rattle.fp_flow.proofs.worklist.starts.skip_below.Given as goal

abbrev pub invariant-loop-at : goal.invariant-loop-at
invariant-loop-at l = (i : ℕ) (e : Edge) → l.from ≤ i → i < l.at → (slice_index_or l.edges i e).0 < l.node
