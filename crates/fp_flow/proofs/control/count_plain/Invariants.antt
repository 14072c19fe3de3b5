use Rattle.std.proofs.Common.{take}
use Rattle.std.specs.Prelude.{sum_by}
use Rattle.fp_flow.specs.EdgeCounts.{IsCount, plain_count}
use Rattle.fp_flow.proofs.control.count_plain.Given as goal

abbrev pub invariant-loop-placed : goal.invariant-loop-placed
invariant-loop-placed l = IsCount l.count (sum_by plain_count (take l.placed-index l.placed-items))
