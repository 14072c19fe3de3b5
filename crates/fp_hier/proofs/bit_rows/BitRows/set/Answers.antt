use Rattle.std.proofs.Common.{◌+◌, ◌*◌, ◌/◌, arith, refl}
use Rattle.std.proofs.lemmas.List.{get_or_read}
use Rattle.fp_hier.proofs.BitPlaces.{bit-set, bit-within}
use Rattle.fp_hier.proofs.bit_rows.BitRows.set.Goals as goal

pub overflow_mul-at : goal.overflow_mul-at
overflow_mul-at c = omega (arith, bit-within c.args.self.now c.requires.holds c.args.row c.args.column c.requires.row c.requires.column)

pub overflow_add-at : goal.overflow_add-at
overflow_add-at c = omega (arith, bit-within c.args.self.now c.requires.holds c.args.row c.args.column c.requires.row c.requires.column)

pub index_mut-requires : goal.index_mut-requires
index_mut-requires c = omega (arith, bit-within c.args.self.now c.requires.holds c.args.row c.args.column c.requires.row c.requires.column)

pub returns : goal.returns
returns c =
    let there = bit-within c.args.self.now c.requires.holds c.args.row c.args.column c.requires.row c.requires.column in
    bit-set c.args.self.now _ c.args.row c.args.column c.index_mut.result.now c.requires.holds c.requires.row c.requires.column
    (get_or_read c.args.self.now.words.items (c.args.row / 64 * c.args.self.now.columns + c.args.column) c.index_mut.result.now there c.index_mut.ensures.value 0) refl refl refl refl
