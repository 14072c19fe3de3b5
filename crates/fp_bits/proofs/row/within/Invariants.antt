use Rattle.std.proofs.Common.{ℕ, ◌<◌, get_or}
use Rattle.fp_bits.specs.Words.{IsWithin}
use Rattle.fp_bits.proofs.row.within.Given as goal

abbrev pub invariant-loop-at : goal.invariant-loop-at
invariant-loop-at l = (k : ℕ) → k < l.at → IsWithin (get_or l.word-items k 0) (get_or l.b-inside.words.items k 0)
