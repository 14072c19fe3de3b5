-- The calls are distinct where those that are left are.
use Rattle.std.proofs.Common.{◌≡◌, drop}
use Rattle.fp_base.specs.MemSink.{distinct_calls}
use Rattle.fp_base.proofs.memory.mem_sink.has_distinct_calls.Given as goal

abbrev pub invariant-loop-i : goal.invariant-loop-i
invariant-loop-i l = distinct_calls l.failing ≡ distinct_calls (drop l.i l.failing)
