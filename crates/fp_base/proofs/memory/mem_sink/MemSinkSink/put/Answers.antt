-- A failing call leaves the first bytes of the piece.
use Rattle.std.proofs.Common.{rules}
use Rattle.fp_base.proofs.SinkLemmas.{part-take}
use Rattle.fp_base.proofs.memory.mem_sink.MemSinkSink.put.Goals as goal

pub returns-clause-prefix : goal.returns-clause-prefix
returns-clause-prefix c = part-take _ _ c.in-Some.kept c.args.piece.now (search rules)
