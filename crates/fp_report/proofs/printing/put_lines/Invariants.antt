use Rattle.std.proofs.Common.{◌≡◌, ◌≤◌, take}
use Rattle.std.specs.List.{flat_map}
use Rattle.std.specs.Io.KnownBytes.{append_known}
use Rattle.fp_report.proofs.printing.put_lines.Given as goal

-- the lines so far are told, and no fault was forgotten
abbrev pub invariant-loop-line : goal.invariant-loop-line
invariant-loop-line g l = record {
  told : g.S.Sink.told l.sink ≡ append_known (g.S.Sink.told l.initial.sink) (flat_map (λ line. line.items) (take l.line-index l.lines));
  faults : g.S.Sink.faults l.initial.sink ≤ g.S.Sink.faults l.sink;
}
