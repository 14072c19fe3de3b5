use Rattle.std.proofs.Common.{◌≡◌, ◌<◌, get_or, length, rules}
use Rattle.std.proofs.lemmas.List.{get_or_read}
use Rattle.fp_bits.proofs.RowLemmas.{joins-none, joins-changed, joins-kept}
use Rattle.fp_bits.proofs.row.join.Goals as goal
use Rattle.fp_bits.proofs.row.join.Goals.{then-joined-word, else-joined-word}

pub loop-at-init : goal.loop-at-init
loop-at-init c = joins-none c.into.inside.words.items

pub loop-at-preserved : goal.loop-at-preserved
loop-at-preserved c =
    let now = c.loop-at.into-inside.words.items in
    let i = c.loop-at.at in
    let in_now : i < length now = search rules in
    let e : c.index-word.result.now ≡ get_or now i 0 = get_or_read now i _ in_now c.index-word.ensures 0 in
    elim c.if-joined-word.branch [
      | then-joined-word w ↦ rw (w.changed-is, e) (joins-changed _ _ now c.loop-at.changed i (search rules) in_now (search rules) c.loop-at.invariant (rw e at w.if-joined-word.true))
      | else-joined-word w ↦ rw (w.changed-is, e) (joins-kept _ _ now c.loop-at.changed i (search rules) in_now (search rules) c.loop-at.invariant (rw e at w.if-joined-word.false))
    ]
