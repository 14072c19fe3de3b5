use Rattle.fp_facts.proofs.BegunClasses.{are-begun}
use Rattle.fp_facts.proofs.laws.law_begins.Goals as goal

pub returns : goal.returns
returns c set m code = are-begun set m code
