use Rattle.std.proofs.Common.{[], map, ap, ◌∙◌, drop, get_or, ◌+◌}
use Rattle.std.specs.List.{fold}
use Rattle.fp_words.specs.Lists.{with_item}
use Rattle.fp_words.proofs.ListLemmas.{map-inserted, fold-next}
use Rattle.fp_words.proofs.list.distinct.Goals as goal

pub loop-item-preserved : goal.loop-item-preserved
loop-item-preserved c =
    ap (λ kept. fold with_item kept (map (λ item. item.now) (drop (c.loop-item.item-index + 1) c.args.items.now)))
    (map-inserted c.loop-item.distinct.keys c.insert.new.self.keys (get_or c.args.items.now c.loop-item.item-index (record { ref_ptr = (0, 0); now = [] })) c.in_ok-insert.ensures.keys)
    ∙ fold-next _ _ _ _ _ c.loop-item-test.true c.loop-item.invariant
