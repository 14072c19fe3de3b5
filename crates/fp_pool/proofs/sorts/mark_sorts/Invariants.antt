use Rattle.std.proofs.Common.{◌≡◌, map, take}
use Rattle.fp_pool.specs.Sorts.{sorts_in}
use Rattle.fp_pool.proofs.sorts.mark_sorts.Given as goal

abbrev pub invariant-loop-entry : goal.invariant-loop-entry
invariant-loop-entry l = l.marks.items ≡ map sorts_in (take l.entry-index l.entries)
