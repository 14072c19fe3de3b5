use Rattle.fp_origin.proofs.Growing.{nothing-set}
use Rattle.fp_origin.proofs.search.growth.grow_set.Goals as goal

pub returns-then-word-eq0 : goal.returns-then-word-eq0
returns-then-word-eq0 c = nothing-set c.args.group.now c.args.word c.args.place c.args.sets.now.items c.if-word-eq0.true
