use Rattle.fp_eqs.proofs.LeastDemand.{demand-least}
use Rattle.fp_eqs.proofs.laws.law_demand.Goals as goal

pub returns : goal.returns
returns c e laws = demand-least e laws
