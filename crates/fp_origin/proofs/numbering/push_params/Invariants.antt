use Rattle.std.proofs.Common.{◌≡◌, ◌+◌, ◌++◌, drop}
use Rattle.fp_origin.specs.Numbering.{param_origins}
use Rattle.fp_origin.proofs.numbering.push_params.Given as goal

abbrev pub invariant-loop-kind : goal.invariant-loop-kind
invariant-loop-kind l = record {
  number : l.number ≡ l.first + l.kind-index;
  origins : l.origins.items ++ param_origins l.number (drop l.kind-index l.kinds) ≡ l.fn.origins.items ++ param_origins l.first l.kinds;
}
