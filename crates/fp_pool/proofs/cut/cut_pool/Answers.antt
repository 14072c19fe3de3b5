use Rattle.std.proofs.Common.{arith}
use Rattle.fp_pool.proofs.Formed.{pool_has_form}
use Rattle.fp_pool.proofs.Spelled.{pool_spelled}
use Rattle.fp_pool.proofs.cut.cut_pool.Goals as goal

pub returns-clause-spelled : goal.returns-clause-spelled
returns-clause-spelled c = pool_spelled c.args.bytes.now (record { below = λ i. omega (arith, c.type_inv.bytes i) }) c.args.at c.pool.result c.pool.ensures

pub returns-clause-formed : goal.returns-clause-formed
returns-clause-formed c = pool_has_form c.args.bytes.now (record { below = λ i. omega (arith, c.type_inv.bytes i) }) c.args.at c.pool.result c.pool.ensures
