-- The superinterfaces that are left give what the class and all of them do.
use Rattle.std.proofs.Common.{◌≡◌, drop}
use Rattle.fp_facts.specs.Hierarchy.{classes_among}
use Rattle.fp_facts.specs.Resolution.{class_and_superinterfaces, declared_field, first_given}
use Rattle.fp_hier.proofs.resolution.fields.own_field.Given as goal

abbrev pub invariant-loop-interface : goal.invariant-loop-interface
invariant-loop-interface l =
    first_given (declared_field l.set.classes l.signature.name l.signature.descr) (classes_among l.set.classes (drop l.interface-index l.names))
    ≡ first_given (declared_field l.set.classes l.signature.name l.signature.descr) (class_and_superinterfaces l.set.classes l.class)
