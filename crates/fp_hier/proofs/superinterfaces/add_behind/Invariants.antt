-- The names so far are behind the others.
use Rattle.std.proofs.Common.{◌≡◌, ◌++◌, drop, take}
use Rattle.fp_hier.proofs.superinterfaces.add_behind.Given as goal

abbrev pub invariant-loop-index : goal.invariant-loop-index
invariant-loop-index l = l.names.items ≡ l.fn.names.items ++ drop l.but (take l.index l.list)
