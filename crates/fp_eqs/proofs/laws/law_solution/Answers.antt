use Rattle.fp_eqs.proofs.Least.{solution-least}
use Rattle.fp_eqs.proofs.laws.law_solution.Goals as goal

pub returns : goal.returns
returns c e laws = solution-least e laws
