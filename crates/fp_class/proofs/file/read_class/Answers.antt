use Rattle.std.proofs.Common.{arith}
use Rattle.fp_class.proofs.Phases.{found}
use Rattle.fp_class.proofs.file.read_class.Goals as goal

pub returns-clause-found : goal.returns-clause-found
returns-clause-found c = found c.args.bytes.now (record { below = λ i. omega (arith, c.type_inv.bytes i) }) c.requires c.read_phases.result c.read_phases.ensures
