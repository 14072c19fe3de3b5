use Rattle.fp_bits.specs.Words.{join-laws, order-laws}
use Rattle.fp_bits.proofs.laws.law_join.Goals as goal

pub returns-clause-order : goal.returns-clause-order
returns-clause-order c = order-laws

pub returns-clause-join : goal.returns-clause-join
returns-clause-join c = join-laws
