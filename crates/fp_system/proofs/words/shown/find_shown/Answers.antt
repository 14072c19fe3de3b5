use Rattle.std.proofs.Common.{◌+◌, ◌-◌, ◌++◌, ◌∙◌, ap, replicate, take, sym, arith}
use Rattle.fp_system.proofs.ShowLemmas.{entity_at, flags_below, shown_step}
use Rattle.fp_system.proofs.words.shown.find_shown.Goals as goal

pub mark-requires : goal.mark-requires
mark-requires c = entity_at c.args.set.now c.args.cells.now c.loop-i.i c.unwrap-kind.result c.requires (sym c.cell.ensures.cell ∙ c.unwrap-kind.ensures)

pub overflow_cast-first : goal.overflow_cast-first
overflow_cast-first c =
    let below = flags_below c.args.set.now c.args.show.now.items.texts c.args.cells.now c.loop-i.i c.loop-i.flags.items c.loop-i.firsts.items c.loop-i.invariant in
    omega (arith, below, c.places-places.ensures.places, c.places-places.type_inv, c.len-first.ensures, c.loop-i.flags.ok.0)

pub loop-i-preserved : goal.loop-i-preserved
loop-i-preserved c =
    let shown = c.in_ok-is_shown.is_shown in
    let count = c.len-first.result in
    let end = count + c.count_places.result in
    let flags = c.loop-i.flags.items in
    shown_step c.args.set.now c.args.show.now.items.texts c.args.cells.now c.loop-i.i c.unwrap-kind.result shown flags c.resize.new.self.items c.loop-i.firsts.items c.push_if.new.places.items end count
    (sym c.cell.ensures.cell ∙ c.unwrap-kind.ensures) c.in_ok-is_shown.ensures.shown
    (c.len-first.ensures ∙ c.loop-i.flags.ok.0) (ap (λ n. count + n) c.count_places.ensures)
    (c.in_ok-resize.ensures.items ∙ ap (λ n. take end flags ++ replicate (end - n) shown) (sym c.len-first.ensures))
    c.in_ok-push_if.ensures c.loop-i.invariant
