use Rattle.std.proofs.Common.{arith}
use Rattle.fp_attr.proofs.Spelled.{found_spelled}
use Rattle.fp_attr.proofs.attribute.read_attr.Goals as goal

pub returns-clause-spelled : goal.returns-clause-spelled
returns-clause-spelled c = found_spelled c.args.pool.now.entries c.args.owner c.args.bytes.now (record { below = λ i. omega (arith, c.type_inv.bytes i) }) c.args.at c.attribute.result c.attribute.ensures
