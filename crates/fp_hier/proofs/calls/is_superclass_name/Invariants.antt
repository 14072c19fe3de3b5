use Rattle.std.proofs.Common.{◌≡◌, ◌-◌, length}
use Rattle.fp_facts.specs.Hierarchy.{has_number, superclasses, superclasses_from}
use Rattle.fp_hier.proofs.calls.is_superclass_name.Given as goal

abbrev pub invariant-loop : goal.invariant-loop
invariant-loop l = has_number (superclasses_from l.set.classes (length l.set.classes - l.counter) l.above) l.name ≡ has_number (superclasses l.set.classes l.class) l.name
