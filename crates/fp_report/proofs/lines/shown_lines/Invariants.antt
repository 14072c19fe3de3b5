use Rattle.std.proofs.Common.{◌≡◌, take, map, slice_index}
use Rattle.fp_report.specs.Report.{line_at}
use Rattle.fp_report.proofs.lines.shown_lines.Given as goal

-- the lines so far are those of the places so far
abbrev pub invariant-loop-place : goal.invariant-loop-place
invariant-loop-place l = map (λ line. line.items) l.lines.items ≡ map (line_at l.set l.system.cells.now l.system.targets.now (slice_index l.values)) (take l.place-index l.system.shown.now)
