use Rattle.std.proofs.Common.{◌-◌, arith}
use Rattle.fp_eqs.proofs.SumLemmas.{maker-first, maker-second, maker-none}
use Rattle.fp_eqs.proofs.both.BothAnalysis.maker.Goals as goal

pub returns-then-k-before : goal.returns-then-k-before
returns-then-k-before g c =
    let x = g.X.Analysis.meaning c.args.self.now.first in
    let y = g.Y.Analysis.meaning c.args.self.now.second in
    maker-first x y c.args.place c.args.k c.maker.result c.maker.ensures (omega (arith, c.maker_count-before.ensures))

pub returns-in-Some : goal.returns-in-Some
returns-in-Some g c =
    let x = g.X.Analysis.meaning c.args.self.now.first in
    let y = g.Y.Analysis.meaning c.args.self.now.second in
    rw c.tasks-count.ensures (maker-second x y c.args.place c.args.k (c.args.k - c.maker_count-before.result) c.in-Some.task c.in-Some.ensures (omega (arith, c.maker_count-before.ensures)))

pub returns-in-None : goal.returns-in-None
returns-in-None g c =
    let x = g.X.Analysis.meaning c.args.self.now.first in
    let y = g.Y.Analysis.meaning c.args.self.now.second in
    maker-none x y c.args.place c.args.k (c.args.k - c.maker_count-before.result) c.in-None.ensures (omega (arith, c.maker_count-before.ensures))
