use Rattle.std.proofs.Common.{◌≡◌, take}
use Rattle.fp_base.specs.Names.{has_name}
use Rattle.fp_system.specs.Starts.{start_words}
use Rattle.fp_system.proofs.fixed.start_words.Given as goal

abbrev pub invariant-loop-i : goal.invariant-loop-i
invariant-loop-i l = l.words.items ≡ start_words (has_name l.selected) (take l.i l.cells)
