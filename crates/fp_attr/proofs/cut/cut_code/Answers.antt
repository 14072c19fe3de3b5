use Rattle.std.proofs.Common.{arith}
use Rattle.fp_attr.specs.Codes.{inner_at, row_at}
use Rattle.fp_attr.proofs.Spelled.{counted_room}
use Rattle.fp_attr.proofs.cut.cut_code.Goals as goal

pub overflow_add-result : goal.overflow_add-result
overflow_add-result c = omega (arith, c.requires, counted_room (row_at c.args.window.now) c.args.window.now c.in_ok-end.end (c.in_ok-rows.rows, c.in_ok-rows.next) c.in_ok-rows.ensures)

pub overflow_add-result-2 : goal.overflow_add-result-2
overflow_add-result-2 c = omega (arith, c.requires, counted_room (inner_at c.args.window.now) c.args.window.now c.in_ok-rows.next (c.in_ok-attributes.attributes, c.in_ok-attributes.last) c.in_ok-attributes.ensures)
