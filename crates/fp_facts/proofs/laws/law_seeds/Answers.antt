use Rattle.fp_facts.proofs.SeedRounds.{least-seeds}
use Rattle.fp_facts.proofs.laws.law_seeds.Goals as goal

pub returns : goal.returns
returns c classes roots = least-seeds classes roots
