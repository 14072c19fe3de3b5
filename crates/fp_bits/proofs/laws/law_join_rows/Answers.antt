use Rattle.fp_bits.specs.Rows.{row_join-laws, row_order-laws}
use Rattle.fp_bits.proofs.laws.law_join_rows.Goals as goal

pub returns-clause-order : goal.returns-clause-order
returns-clause-order c = row_order-laws

pub returns-clause-join : goal.returns-clause-join
returns-clause-join c = row_join-laws
