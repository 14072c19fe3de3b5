use Rattle.std.proofs.Common.{◌≡◌, ◌≤◌, ◌<◌, ℕ, length, slice_index, slice_index_or}
use Rattle.fp_facts.specs.Dataflow.{Edge}
use Rattle.fp_flow.proofs.worklist.starts.edge_starts.Given as goal

abbrev pub invariant-loop-node : goal.invariant-loop-node
invariant-loop-node l = record {
  long : length l.starts.items ≡ l.node;
  at_within : l.at ≤ length l.edges;
  passed : (i : ℕ) (e : Edge) → i < l.at → (slice_index_or l.edges i e).0 < l.node;
  within : (n : ℕ) → n < l.node → slice_index l.starts.items n ≤ length l.edges;
  before : (n i : ℕ) (e : Edge) → n < l.node → i < slice_index l.starts.items n → (slice_index_or l.edges i e).0 < n;
  after : (n i : ℕ) (e : Edge) → n < l.node → slice_index l.starts.items n ≤ i → i < length l.edges → n ≤ (slice_index_or l.edges i e).0;
}
