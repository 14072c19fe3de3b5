use Rattle.std.proofs.Common.{◌≡◌, ◌++◌, drop, length, take}
use Rattle.fp_origin.specs.Growth as defined
use Rattle.fp_origin.proofs.search.growth.grow_sets.Given as goal

abbrev pub invariant-loop-place : goal.invariant-loop-place
invariant-loop-place l = record {
  long : length l.sets.items ≡ length l.fn.sets.items;
  grown : l.sets.items ≡ defined.grown_sets l.group (l.locals ++ l.stack) (take l.place l.fn.sets.items) ++ drop l.place l.fn.sets.items;
}
