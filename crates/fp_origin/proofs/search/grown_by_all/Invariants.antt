use Rattle.std.proofs.Common.{◌≤◌, ◌-◌, length, take}
use Rattle.fp_origin.specs.Growth.{IsGrown}
use Rattle.fp_origin.proofs.search.grown_by_all.Given as goal

abbrev pub invariant-loop-at : goal.invariant-loop-at
invariant-loop-at l = record {
  within : l.at ≤ length l.all;
  grown : IsGrown l.method l.code (take l.at l.all) l.gathered.frames.items l.gathered.room;
}

abbrev pub decreases-loop-at : goal.decreases-loop-at
decreases-loop-at l = length l.initial.all - l.at
