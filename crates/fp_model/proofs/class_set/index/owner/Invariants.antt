-- The member lies between the first members of the two classes.
use Rattle.std.proofs.Common.{◌-◌, ◌<◌, ◌≤◌, length, slice_index}
use Rattle.fp_model.proofs.class_set.index.owner.Given as goal

abbrev pub invariant-loop-high : goal.invariant-loop-high
invariant-loop-high l = (l.low < l.high) × (l.high < length l.firsts) × (slice_index l.firsts l.low ≤ l.id) × (l.id < slice_index l.firsts l.high)

abbrev pub decreases-loop-high : goal.decreases-loop-high
decreases-loop-high l = l.high - l.low
