use Rattle.std.proofs.Common.{map}
use Rattle.fp_cells.specs.Texts.{target_text}
use Rattle.fp_cells.specs.Words.{is_set, passing_below}
use Rattle.fp_cells.proofs.ListLemmas.{ListedSoFar}
use Rattle.fp_cells.proofs.text.list.append_targets.Given as goal

abbrev pub invariant-loop-i : goal.invariant-loop-i
invariant-loop-i l = ListedSoFar l.initial.to.items (map (target_text (map (λ t. t.items) l.targets)) (passing_below (is_set l.words) l.i)) l.to.items l.is_first
