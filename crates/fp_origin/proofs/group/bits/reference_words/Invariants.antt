use Rattle.std.proofs.Common.{◌≡◌, take}
use Rattle.fp_origin.specs.Groups.{reference_words}
use Rattle.fp_origin.proofs.group.bits.reference_words.Given as goal

abbrev pub invariant-loop-sort : goal.invariant-loop-sort
invariant-loop-sort l = l.words.items ≡ reference_words l.bits (take l.sort-index l.sorts)
