use Rattle.std.proofs.Common.{◌≡◌, map, drop}
use Rattle.std.specs.List.{fold}
use Rattle.fp_words.specs.Lists.{distinct_items, with_item}
use Rattle.fp_words.proofs.list.distinct.Given as goal

-- the items so far, and then those that are left
abbrev pub invariant-loop-item : goal.invariant-loop-item
invariant-loop-item l =
    fold with_item (map (λ item. item.now) l.distinct.keys) (map (λ item. item.now) (drop l.item-index l.items))
    ≡ distinct_items (map (λ item. item.now) l.items)
