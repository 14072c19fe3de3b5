use Rattle.std.proofs.Common.{arith}
use Rattle.fp_eqs.proofs.DemoLemmas.{chain-maker_at, chain-rank, chain-rank_none}
use Rattle.fp_eqs.proofs.demo.chain_maker.Goals as goal

pub returns-then-place-lt2 : goal.returns-then-place-lt2
returns-then-place-lt2 c = omega (arith, chain-rank_none c.args.count c.args.place (omega arith))

pub returns-then-k-eq0 : goal.returns-then-k-eq0
returns-then-k-eq0 c = chain-maker_at c.args.count c.args.place c.args.k c.requires (omega arith) c.if-k-eq0.true

pub returns-else-k-eq0 : goal.returns-else-k-eq0
returns-else-k-eq0 c = omega (arith, chain-rank c.args.count c.args.place)
