use Rattle.std.proofs.Common.{arith}
use Rattle.fp_attr.proofs.Spelled.{cut_take}
use Rattle.fp_attr.proofs.code.read_code.Goals as goal

pub overflow_add-result : goal.overflow_add-result
overflow_add-result c =
    let cut = cut_take c.args.window.now (record { below = λ i. omega (arith, c.type_inv.window i) }) c.args.at c.in_ok-cut.cut c.in_ok-cut.ensures.exact in
    omega (arith, c.requires, cut.room)

pub overflow_add-result-then-not-has_size : goal.overflow_add-result-then-not-has_size
overflow_add-result-then-not-has_size c =
    let cut = cut_take c.args.window.now (record { below = λ i. omega (arith, c.type_inv.window i) }) c.args.at c.in_ok-cut.cut c.in_ok-cut.ensures.exact in
    omega (arith, c.requires, cut.room)

pub check_rows-requires-clause-rows : goal.check_rows-requires-clause-rows
check_rows-requires-clause-rows c =
    let cut = cut_take c.args.window.now (record { below = λ i. omega (arith, c.type_inv.window i) }) c.args.at c.in_ok-cut.cut c.in_ok-cut.ensures.exact in
    rw c.as_slice-3.ensures (omega (arith, c.requires, cut.rows))

pub check_names-requires : goal.check_names-requires
check_names-requires c =
    let cut = cut_take c.args.window.now (record { below = λ i. omega (arith, c.type_inv.window i) }) c.args.at c.in_ok-cut.cut c.in_ok-cut.ensures.exact in
    rw c.as_slice-4.ensures (omega (arith, c.requires, cut.attributes))
