use Rattle.fp_facts.proofs.Flows.{solution-least}
use Rattle.fp_facts.proofs.laws.law_least_flow.Goals as goal

pub returns : goal.returns
returns g c = λ d laws. solution-least d laws
