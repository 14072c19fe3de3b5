use Rattle.std.proofs.Common.{◌≡◌, ◌≤◌, ◌<◌, ◌++◌, ℕ, drop}
use Rattle.fp_facts.specs.Edges.{edges_behind, edges_of}
use Rattle.fp_flow.specs.Handlers.{HasActive}
use Rattle.fp_flow.proofs.control.edges_by.Given as goal

abbrev pub invariant-loop-k : goal.invariant-loop-k
invariant-loop-k l = record {
  edges : l.edges.items ++ edges_behind l.code l.k (drop l.k l.code.instrs) ≡ edges_of l.code;
  near : (j : ℕ) → l.k ≤ j → j < l.near.until → HasActive l.handlers l.pcs l.near.handlers.items j;
}
