-- The classes so far are marked.
use Rattle.std.proofs.Common.{◌≡◌, map, take}
use Rattle.fp_model.specs.ClassSet.{has_namesake}
use Rattle.fp_model.proofs.class_set.duplicates.mark_namesakes.Given as goal

abbrev pub invariant-loop-class : goal.invariant-loop-class
invariant-loop-class l = l.marks.items ≡ map (has_namesake l.classes) (take l.class-index l.classes)
