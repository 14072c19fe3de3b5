-- The pairs that are left answer what all of them do.
use Rattle.std.proofs.Common.{◌≡◌, drop}
use Rattle.fp_base.specs.MemSink.{kept_at}
use Rattle.fp_base.proofs.memory.mem_sink.kept_bytes.Given as goal

abbrev pub invariant-loop-pair : goal.invariant-loop-pair
invariant-loop-pair l = kept_at l.failing l.call ≡ kept_at (drop l.pair-index l.failing) l.call
