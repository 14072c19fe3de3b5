use Rattle.std.proofs.Common.{◌≡◌, false, replicate}
use Rattle.fp_extract.proofs.seed.reach.unset.Given as goal

abbrev pub invariant-loop : goal.invariant-loop
invariant-loop l = l.flags.items ≡ replicate l.counter false
