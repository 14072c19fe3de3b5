use Rattle.std.proofs.Common.{◌≡◌, ◌+◌, length, take}
use Rattle.fp_rta.specs.Contributions.{sources_of}
use Rattle.fp_rta.proofs.shapes.count_asks.Given as goal

abbrev pub invariant-loop-candidate : goal.invariant-loop-candidate
invariant-loop-candidate l = l.asks ≡ length (sources_of (take l.candidate-index l.candidates)) + 1
