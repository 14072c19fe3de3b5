use Rattle.std.proofs.Common.{◌≡◌, ◌++◌, map, take}
use Rattle.fp_origin.specs.Growth.{chosen}
use Rattle.fp_origin.proofs.search.growth.push_told.Given as goal

abbrev pub invariant-loop-word : goal.invariant-loop-word
invariant-loop-word l = l.sets.items ≡ l.fn.sets.items ++ map (chosen l.group) (take l.word-index l.words)
