-- The words so far are joined, and the change was told exactly where one of them was not within.
use Rattle.std.proofs.Common.{take}
use Rattle.fp_bits.proofs.RowLemmas.{JoinsSoFar}
use Rattle.fp_bits.proofs.row.join.Given as goal

abbrev pub invariant-loop-at : goal.invariant-loop-at
invariant-loop-at l = JoinsSoFar l.initial.into-inside.words.items (take l.at l.more-items) l.into-inside.words.items l.changed
