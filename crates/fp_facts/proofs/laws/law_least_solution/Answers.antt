use Rattle.fp_facts.proofs.Rounds.{least-solution}
use Rattle.fp_facts.proofs.laws.law_least_solution.Goals as goal

pub returns : goal.returns
returns g c = λ l nodes step first laws m. least-solution l laws nodes step first m
