use Rattle.std.proofs.Common.{◌<◌, ◌^◌, length, rules}
use Rattle.fp_bits.proofs.RowLemmas.{few-bits}
use Rattle.fp_bits.proofs.row.count.Goals as goal

pub overflow_add-bits : goal.overflow_add-bits
overflow_add-bits c =
    let xs = c.deref-word-items.result.now in
    let few : length xs < 2 ^ 32 = search rules in
    rw (c.loop-word.invariant, c.from-bits.ensures) (few-bits xs c.loop-word.word-index c.type_inv.word-items c.loop-word-test.true few)
