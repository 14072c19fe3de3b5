use Rattle.fp_facts.proofs.Flows.{same_as_solution}
use Rattle.fp_facts.proofs.laws.law_same_solution.Goals as goal

pub returns : goal.returns
returns g c = λ d a laws holds settled within. same_as_solution d laws a holds settled within
