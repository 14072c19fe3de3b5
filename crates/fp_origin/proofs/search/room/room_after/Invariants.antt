use Rattle.std.proofs.Common.{◌≡◌, ◌+◌, drop}
use Rattle.fp_origin.specs.Growth.{group_pairs}
use Rattle.fp_origin.proofs.search.room.room_after.Given as goal

abbrev pub invariant-loop-label : goal.invariant-loop-label
invariant-loop-label l = l.room + group_pairs l.group (drop l.label-index l.labels) ≡ l.left + group_pairs l.group l.labels
