-- Each turn writes some of the rest.
use Rattle.std.proofs.Common.{length}
use Rattle.fp_base.proofs.host.host_sink.write_output.Given as goal

abbrev pub decreases-loop-rest : goal.decreases-loop-rest
decreases-loop-rest g l = length l.rest
