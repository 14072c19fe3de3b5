-- The classes that are still to come give what all of them give.
use Rattle.std.proofs.Common.{◌≡◌, ◌<◌, length}
use Rattle.std.specs.Prelude.{IfSome}
use Rattle.fp_facts.specs.Hierarchy.{classes_among, superinterfaces_at}
use Rattle.fp_facts.specs.Resolution.{first_given}
use Rattle.fp_hier.specs.Given.{given_by_interface}
use Rattle.fp_hier.specs.Sought.{passes}
use Rattle.fp_hier.specs.Lineages.{classes_up, rest_of}
use Rattle.fp_hier.proofs.resolution.interfaces.among_superinterfaces.Given as goal

abbrev pub invariant-loop-id : goal.invariant-loop-id
invariant-loop-id l = record {
  known : IfSome l.rest.first (λ id. id < length l.set.classes);
  given : first_given
      (λ id. first_given (given_by_interface l.set.classes (passes l.wanted) l.signature.name l.signature.descr) (classes_among l.set.classes (superinterfaces_at l.set.classes id)))
      (rest_of l.set.classes l.rest)
      ≡ first_given
      (λ id. first_given (given_by_interface l.set.classes (passes l.wanted) l.signature.name l.signature.descr) (classes_among l.set.classes (superinterfaces_at l.set.classes id)))
      (classes_up l.set.classes l.class);
}

abbrev pub decreases-loop-id : goal.decreases-loop-id
decreases-loop-id l = l.rest.most
