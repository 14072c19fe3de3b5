use Rattle.std.proofs.Common.{◌≤◌}
use Rattle.fp_eqs.specs.Makers.{rank}
use Rattle.fp_eqs.proofs.both.maker_count.Given as goal

abbrev pub invariant-loop-k : goal.invariant-loop-k
invariant-loop-k g l = l.k ≤ rank (g.X.Analysis.meaning l.analysis).task l.place (g.X.Analysis.meaning l.analysis).count
