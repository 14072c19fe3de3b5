use Rattle.std.proofs.Common.{◌≡◌, ◌-◌, ◌++◌, length}
use Rattle.fp_facts.specs.Hierarchy.{superclasses, superclasses_from}
use Rattle.fp_hier.proofs.receivers.own_names.push_superclasses.Given as goal

abbrev pub invariant-loop : goal.invariant-loop
invariant-loop l = (l.names.items ++ superclasses_from l.set.classes (length l.set.classes - l.counter) l.above) ≡ (l.fn.names.items ++ superclasses l.set.classes l.class)
