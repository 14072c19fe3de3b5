-- A run that is solved, and its report.
use Rattle.std.specs.Prelude.{◌≡◌, ℕ, false, List, [], length, slice_index}
use Rattle.fp_eqs.specs.Solved.{flag_at}
use Rattle.fp_system.specs.Systems.{system_cells, system_shown_cells}
use Rattle.fp_report.specs.Report.{report, IsReportable}
use Rattle.fp_top.specs.declared.solve.Run.{Run}

-- the lines of its report
abbrev pub lines_of : Run → List (List ℕ)
lines_of run = report run.loaded.set (system_cells run.system) [] (system_shown_cells run.system) (slice_index run.solved.values) (flag_at run.solved.wanted)

-- a report may be made of it, with the shown cells alone and no cycles
pub record IsReady (run : Run) : Type 0 where
  pub reportable : IsReportable run.loaded.set (system_cells run.system) [] (system_shown_cells run.system) (length run.solved.values) (length run.solved.wanted)
  pub shown_alone : run.job.all ≡ false
  pub no_cycles : run.job.cycles ≡ false
