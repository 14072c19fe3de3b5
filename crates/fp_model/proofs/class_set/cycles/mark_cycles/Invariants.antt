-- So many steps were taken from each class.
use Rattle.std.proofs.Common.{◌≡◌, ◌-◌, ◌<◌, map, length}
use Rattle.std.specs.List.{range_with_len}
use Rattle.fp_model.specs.ClassSet.{ancestor_after}
use Rattle.fp_model.proofs.class_set.cycles.mark_cycles.Given as goal

abbrev pub invariant-loop-steps : goal.invariant-loop-steps
invariant-loop-steps l = record {
  some : 0 < l.steps;
  reached : l.reached.items ≡ map (ancestor_after l.classes l.steps) (range_with_len 0 (length l.classes));
}

abbrev pub decreases-loop-steps : goal.decreases-loop-steps
decreases-loop-steps l = length l.classes - l.steps
