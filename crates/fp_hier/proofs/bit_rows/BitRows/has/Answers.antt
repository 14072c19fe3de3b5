use Rattle.std.proofs.Common.{◌+◌, ◌*◌, ◌/◌, ◌%◌, arith, ap, ◌∙◌, nat_eq}
use Rattle.std.proofs.lemmas.Nat.Bits.{shr_and_one}
use Rattle.std.proofs.lemmas.List.{get_or_read}
use Rattle.std.specs.Int.{bit_at}
use Rattle.fp_hier.proofs.BitPlaces.{bit-within}
use Rattle.fp_hier.proofs.bit_rows.BitRows.has.Goals as goal

pub overflow_mul-row : goal.overflow_mul-row
overflow_mul-row c = omega (arith, bit-within c.args.self.now c.requires.holds c.args.row c.args.column c.requires.row c.requires.column)

pub overflow_add-row : goal.overflow_add-row
overflow_add-row c = omega (arith, bit-within c.args.self.now c.requires.holds c.args.row c.args.column c.requires.row c.requires.column)

pub index-word-requires : goal.index-word-requires
index-word-requires c = omega (arith, bit-within c.args.self.now c.requires.holds c.args.row c.args.column c.requires.row c.requires.column)

pub returns : goal.returns
returns c =
    let there = bit-within c.args.self.now c.requires.holds c.args.row c.args.column c.requires.row c.requires.column in
    ap (λ n. nat_eq n 1) (shr_and_one c.index-word.result.now (c.args.row % 64) ∙ ap (λ w. bit_at w (c.args.row % 64)) (get_or_read c.args.self.now.words.items (c.args.row / 64 * c.args.self.now.columns + c.args.column) c.index-word.result.now there c.index-word.ensures 0))
