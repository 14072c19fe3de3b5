use Rattle.fp_origin.proofs.Growing.{nothing-more}
use Rattle.fp_origin.proofs.search.growth.push_from.Goals as goal

pub returns-then-rest-eq0 : goal.returns-then-rest-eq0
returns-then-rest-eq0 c = nothing-more _ _ _ c.loop-origin.rest c.if-rest-eq0.true c.loop-origin.invariant
