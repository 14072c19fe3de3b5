use Rattle.std.proofs.Common.{◌<◌, ◌^◌, ◌∙◌, length, arith}
use Rattle.fp_system.proofs.MakeLemmas.{rows_over}
use Rattle.fp_system.proofs.declared.DeclaredTasks.make.Goals as goal

pub invariant_of-result : goal.invariant_of-result
invariant_of-result c =
    let over = rows_over c.args.set.now c.args.cells.now c.from_vec.result c.places.result c.requires (c.from_vec.ensures ∙ c.in_ok-rows.ensures) c.places.ensures.places in
    let few : length c.from_vec.result < 2 ^ 32 = omega (arith, over.few, c.places.type_inv) in
    record { over = over; few = few }
