use Rattle.std.proofs.Common.{arith}
use Rattle.fp_origin.proofs.Chosen.{trailing-same}
use Rattle.fp_origin.proofs.search.lowest.low_zeros.Goals as goal

pub returns-then-zeros-group-clause-same : goal.returns-then-zeros-group-clause-same
returns-then-zeros-group-clause-same c = trailing-same c.args.group.now c.args.word (omega (arith, c.if-word-eq0.false)) (omega arith)
