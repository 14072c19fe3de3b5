-- The superclasses of the classes so far.
use Rattle.std.proofs.Common.{◌≡◌, map}
use Rattle.std.specs.List.{range_with_len}
use Rattle.fp_model.specs.ClassSet.{superclass_of}
use Rattle.fp_model.proofs.class_set.cycles.superclasses.Given as goal

abbrev pub invariant-loop-class : goal.invariant-loop-class
invariant-loop-class l = l.supers.items ≡ map (superclass_of l.classes) (range_with_len 0 l.class-index)
