use Rattle.std.proofs.Common.{◌+◌, map}
use Rattle.std.specs.Prelude.{decimal}
use Rattle.fp_cells.specs.Words.{is_set, passing_below}
use Rattle.fp_cells.proofs.ListLemmas.{ListedSoFar}
use Rattle.fp_cells.proofs.text.list.append_numbers.Given as goal

abbrev pub invariant-loop-i : goal.invariant-loop-i
invariant-loop-i l = ListedSoFar l.initial.to.items (map decimal (passing_below (λ k. is_set l.words (l.first + k)) l.i)) l.to.items l.is_first
