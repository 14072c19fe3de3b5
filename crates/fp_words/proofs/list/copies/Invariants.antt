use Rattle.std.proofs.Common.{◌≡◌, map, take}
use Rattle.fp_base.specs.Files.{texts}
use Rattle.fp_words.proofs.list.copies.Given as goal

abbrev pub invariant-loop-item : goal.invariant-loop-item
invariant-loop-item l = texts l.copies.items ≡ map (λ item. item.now) (take l.item-index l.items)
