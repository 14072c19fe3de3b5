-- The names from here on give what all of them give.
use Rattle.std.proofs.Common.{◌≡◌, drop}
use Rattle.fp_facts.specs.Hierarchy.{classes_among}
use Rattle.fp_facts.specs.Resolution.{first_given}
use Rattle.fp_hier.specs.Given.{given_by_interface}
use Rattle.fp_hier.specs.Sought.{passes}
use Rattle.fp_hier.proofs.resolution.interfaces.among_names.Given as goal

abbrev pub invariant-loop-interface : goal.invariant-loop-interface
invariant-loop-interface l =
    first_given (given_by_interface l.set.classes (passes l.wanted) l.signature.name l.signature.descr) (classes_among l.set.classes (drop l.interface-index l.names))
    ≡ first_given (given_by_interface l.set.classes (passes l.wanted) l.signature.name l.signature.descr) (classes_among l.set.classes l.names)
