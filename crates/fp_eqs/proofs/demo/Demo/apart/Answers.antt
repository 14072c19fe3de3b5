use Rattle.fp_eqs.proofs.DemoLemmas.{evaluation_bound-apart}
use Rattle.fp_eqs.proofs.demo.Demo.apart.Goals as goal

pub returns-clause-bound : goal.returns-clause-bound
returns-clause-bound c = evaluation_bound-apart c.args.count
