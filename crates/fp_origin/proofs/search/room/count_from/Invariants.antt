use Rattle.std.proofs.Common.{◌≡◌, ◌+◌, ◌≤◌, length, drop}
use Rattle.fp_origin.specs.Growth.{chosen}
use Rattle.fp_origin.proofs.search.room.count_from.Given as goal

abbrev pub invariant-loop-origin : goal.invariant-loop-origin
invariant-loop-origin l = record {
  few : l.count ≤ l._origin-index;
  count : l.count + length (chosen (drop l._origin-index l.group) l.rest) ≡ length (chosen l.group l.word);
}
