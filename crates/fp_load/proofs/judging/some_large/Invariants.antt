use Rattle.std.proofs.Common.{◌≡◌, drop}
use Rattle.std.specs.List.{list_any}
use Rattle.fp_load.specs.Kinds.{is_large}
use Rattle.fp_load.proofs.judging.some_large.Given as goal

abbrev pub invariant-loop-method : goal.invariant-loop-method
invariant-loop-method l = list_any is_large l.methods ≡ list_any is_large (drop l.method-index l.methods)
