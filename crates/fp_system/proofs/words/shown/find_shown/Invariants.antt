use Rattle.std.proofs.Common.{take}
use Rattle.fp_system.proofs.ShowLemmas.{ShownSoFar}
use Rattle.fp_system.proofs.words.shown.find_shown.Given as goal

abbrev pub invariant-loop-i : goal.invariant-loop-i
invariant-loop-i l = ShownSoFar l.set l.show.items.texts (take l.i l.cells) l.flags.items l.firsts.items
