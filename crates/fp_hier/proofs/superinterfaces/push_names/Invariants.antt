-- The names from a place on are put behind the others.
use Rattle.std.proofs.Common.{◌≡◌, ◌++◌, drop, reverse}
use Rattle.fp_hier.proofs.superinterfaces.push_names.Given as goal

abbrev pub invariant-loop-at : goal.invariant-loop-at
invariant-loop-at l = reverse l.waiting ≡ drop l.at l.names ++ reverse l.initial.waiting
