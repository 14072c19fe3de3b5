use Rattle.std.proofs.Common.{IsTrue}
use Rattle.fp_facts.proofs.Reached.{reaches-kept}
use Rattle.fp_facts.proofs.laws.law_reaches.Goals as goal

pub returns : goal.returns
returns c = λ es test holds kept p reached. reaches-kept es (λ n. IsTrue (test n)) holds kept p reached
