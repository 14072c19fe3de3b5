use Rattle.std.proofs.Common.{arith}
use Rattle.fp_attr.specs.Attributes.{boot_at}
use Rattle.fp_attr.proofs.Spelled.{boots_take, counted_room}
use Rattle.fp_attr.proofs.boots.read_boots.Goals as goal

pub overflow_add-at : goal.overflow_add-at
overflow_add-at c = omega (arith, c.requires, counted_room (boot_at c.args.window.now) c.args.window.now c.args.at (c.in_ok-rows.rows, c.in_ok-rows.end) c.in_ok-rows.ensures)

pub check_rows-requires : goal.check_rows-requires
check_rows-requires c =
    let rows = boots_take c.args.window.now (record { below = λ i. omega (arith, c.type_inv.window i) }) c.args.at (c.in_ok-rows.rows, c.in_ok-rows.end) c.in_ok-rows.ensures in
    rw c.as_slice.ensures (omega (arith, c.requires, c.if-end-window.false, rows.after))
