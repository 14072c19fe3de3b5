use Rattle.std.proofs.Common.{arith}
use Rattle.fp_eqs.proofs.DemoLemmas.{apart-rank}
use Rattle.fp_eqs.proofs.demo.DemoSystem.maker.Goals as goal

pub returns-in-Apart : goal.returns-in-Apart
returns-in-Apart c = rw c.in-Apart.is (omega (arith, apart-rank c.args.self.now.count c.args.place))
