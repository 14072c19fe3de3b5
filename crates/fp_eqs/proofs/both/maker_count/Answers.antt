use Rattle.std.proofs.Common.{arith}
use Rattle.fp_eqs.proofs.MakerLemmas.{rank-below, rank-most}
use Rattle.fp_eqs.proofs.both.maker_count.Goals as goal

pub loop-k-preserved : goal.loop-k-preserved
loop-k-preserved g c =
    let x = g.X.Analysis.meaning c.args.analysis.now in
    let maker = c.in-Some.ensures in
    omega (arith, rank-below x.task c.args.place c.in-Some.field-0 x.count maker.below maker.maker, maker.ranked)

pub returns : goal.returns
returns g c =
    let x = g.X.Analysis.meaning c.args.analysis.now in
    omega (arith, rank-most x.task c.args.place x.count, c.loop-k.invariant)
