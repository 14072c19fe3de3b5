use Rattle.std.proofs.Common.{◌≡◌, count_ones, sum_by, take}
use Rattle.fp_bits.proofs.row.count.Given as goal

abbrev pub invariant-loop-word : goal.invariant-loop-word
invariant-loop-word l = l.bits ≡ sum_by count_ones (take l.word-index l.word-items)
