use Rattle.std.proofs.Common.{◌≡◌, map, take, string_bytes}
use Rattle.fp_load.specs.Faults.{refusal_told}
use Rattle.fp_top.specs.Outcome as outcome
use Rattle.fp_top.proofs.write.fault_lines.Given as goal

abbrev pub invariant-loop-path : goal.invariant-loop-path
invariant-loop-path l = string_bytes l.lines ≡ outcome.fault_lines (map refusal_told (take l.path-index l.refused))
