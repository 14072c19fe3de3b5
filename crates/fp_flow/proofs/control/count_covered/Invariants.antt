use Rattle.std.proofs.Common.{take}
use Rattle.std.specs.Prelude.{sum_by}
use Rattle.fp_flow.specs.EdgeCounts.{IsCount, covered_count}
use Rattle.fp_flow.proofs.control.count_covered.Given as goal

abbrev pub invariant-loop-row : goal.invariant-loop-row
invariant-loop-row l = IsCount l.count (sum_by (covered_count l.pcs) (take l.row-index l.row-items))
