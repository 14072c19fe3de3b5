use Rattle.std.proofs.Common.{◌≡◌, length}
use Rattle.fp_flow.proofs.worklist.list.all_set.Given as goal

abbrev pub invariant-loop : goal.invariant-loop
invariant-loop l = length l.flags.items ≡ l.counter
