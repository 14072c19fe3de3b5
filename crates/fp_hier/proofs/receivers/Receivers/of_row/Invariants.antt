use Rattle.std.proofs.Common.{◌≡◌, filter}
use Rattle.std.specs.List.{range_with_len}
use Rattle.fp_hier.specs.Receivers.{is_marked}
use Rattle.fp_hier.proofs.receivers.Receivers.of_row.Given as goal

abbrev pub invariant-loop-class : goal.invariant-loop-class
invariant-loop-class l = l.ids.items ≡ filter (is_marked l.set l.self l.row) (range_with_len 0 l.class)
