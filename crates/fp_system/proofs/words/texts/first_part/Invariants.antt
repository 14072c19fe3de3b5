use Rattle.std.proofs.Common.{◌≡◌, ◌++◌, take, drop}
use Rattle.fp_system.specs.Texts.{part_before}
use Rattle.fp_system.proofs.words.texts.first_part.Given as goal

abbrev pub invariant-loop-at : goal.invariant-loop-at
invariant-loop-at l = part_before l.text ≡ take l.at l.text ++ part_before (drop l.at l.text)
