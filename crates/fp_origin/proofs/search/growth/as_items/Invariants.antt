use Rattle.std.proofs.Common.{◌≡◌}
use Rattle.fp_origin.proofs.search.growth.as_items.Given as goal

abbrev pub invariant-loop-frame : goal.invariant-loop-frame
invariant-loop-frame l = l.list.items ≡ l.yielded
