use Rattle.fp_ops.proofs.Spelled.{found_spelled}
use Rattle.fp_ops.proofs.reading.decode.Goals as goal

pub returns-clause-spelled : goal.returns-clause-spelled
returns-clause-spelled c = found_spelled c.as_slice.result.now c.args.max_locals c.args.len c.args.bytes.now c.args.at c.instructions.result c.instructions.ensures
