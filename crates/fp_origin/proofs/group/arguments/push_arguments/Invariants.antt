use Rattle.std.proofs.Common.{◌≡◌, ◌+◌, ◌++◌, drop}
use Rattle.fp_origin.specs.Groups.{argument_bits}
use Rattle.fp_origin.proofs.group.arguments.push_arguments.Given as goal

abbrev pub invariant-loop-at : goal.invariant-loop-at
invariant-loop-at l = l.initial.to.items ++ argument_bits l.group l.first l.kinds ≡ l.to.items ++ argument_bits l.group (l.first + l.at) (drop l.at l.kinds)
