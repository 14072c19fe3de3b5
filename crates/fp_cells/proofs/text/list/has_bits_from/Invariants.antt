use Rattle.std.proofs.Common.{◌≡◌, ◌+◌, []}
use Rattle.fp_cells.specs.Words.{is_set, passing_below}
use Rattle.fp_cells.proofs.text.list.has_bits_from.Given as goal

abbrev pub invariant-loop-i : goal.invariant-loop-i
invariant-loop-i l = passing_below (λ k. is_set l.words (l.first + k)) l.i ≡ []
