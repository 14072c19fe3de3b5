use Rattle.std.proofs.Common.{◌≡◌, filter}
use Rattle.std.specs.List.{range_with_len}
use Rattle.fp_extract.specs.SeedGraph.{is_reached}
use Rattle.fp_extract.proofs.seed.reached_classes.Given as goal

abbrev pub invariant-loop-id : goal.invariant-loop-id
invariant-loop-id l = l.ids.items ≡ filter (is_reached l.set.classes l.flags) (range_with_len 0 l.id)
