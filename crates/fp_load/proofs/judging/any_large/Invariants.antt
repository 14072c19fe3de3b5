use Rattle.std.proofs.Common.{◌≡◌, drop}
use Rattle.std.specs.List.{list_any}
use Rattle.fp_load.specs.Kinds.{has_large}
use Rattle.fp_load.proofs.judging.any_large.Given as goal

abbrev pub invariant-loop-class : goal.invariant-loop-class
invariant-loop-class l = list_any has_large l.classes ≡ list_any has_large (drop l.class-index l.classes)
