use Rattle.std.proofs.Common.{◌≡◌, ◌+◌, ◌≤◌, drop}
use Rattle.fp_cells.specs.Cells.{total_places}
use Rattle.fp_eqs.specs.Solved.{flag_at}
use Rattle.fp_report.specs.Report.{demanded_from}
use Rattle.fp_report.proofs.lines.count_demanded.Given as goal

-- what is counted, and what the cells that are left have, make up the whole
abbrev pub invariant-loop-i : goal.invariant-loop-i
invariant-loop-i l = record {
  count : l.count + demanded_from (flag_at l.wanted) l.first (drop l.i l.cells) ≡ demanded_from (flag_at l.wanted) 0 l.cells;
  places : l.first + total_places (drop l.i l.cells) ≡ total_places l.cells;
  few : l.count ≤ l.first;
}
