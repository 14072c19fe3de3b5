use Rattle.std.proofs.Common.{◌≤◌, ◌<◌, ℕ, All, IsTrue}
use Rattle.fp_flow.specs.Waiting.{is_listed}
use Rattle.fp_flow.proofs.worklist.list.downward.Given as goal

abbrev pub invariant-loop-node : goal.invariant-loop-node
invariant-loop-node l = record {
  below : All (λ n. n < l.count) l.nodes.items;
  all : (n : ℕ) → l.node ≤ n → n < l.count → IsTrue (is_listed l.nodes.items n);
}
