use Rattle.std.proofs.Common.{◌≡◌, ◌++◌, drop}
use Rattle.fp_origin.specs.Growth.{chosen}
use Rattle.fp_origin.proofs.search.growth.push_from.Given as goal

abbrev pub invariant-loop-origin : goal.invariant-loop-origin
invariant-loop-origin l = l.set ++ chosen (drop l.origin-index l.group) l.rest ≡ l.fn.set ++ chosen l.group l.word
