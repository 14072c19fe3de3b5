use Rattle.std.proofs.Common.{◌≡◌, None, replicate}
use Rattle.fp_ops.proofs.memo.unknown.Given as goal

abbrev pub invariant-loop : goal.invariant-loop
invariant-loop g l = l.known.items ≡ replicate l.counter None
