use Rattle.std.proofs.Common.{arith}
use Rattle.fp_attr.proofs.Checking.{u2s_size}
use Rattle.fp_attr.proofs.boots.size.Goals as goal

pub overflow_cast-result : goal.overflow_cast-result
overflow_cast-result c = omega (arith, c.requires, c.len.ensures, u2s_size c.args.row.now.args)

pub overflow_mul-result : goal.overflow_mul-result
overflow_mul-result c = omega (arith, c.requires, c.len.ensures, u2s_size c.args.row.now.args)

pub overflow_add-result : goal.overflow_add-result
overflow_add-result c = omega (arith, c.requires, c.len.ensures, u2s_size c.args.row.now.args)

pub returns : goal.returns
returns c = omega (arith, c.len.ensures, u2s_size c.args.row.now.args)
