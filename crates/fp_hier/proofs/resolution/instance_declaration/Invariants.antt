-- The classes that are left give what all of them do.
use Rattle.std.proofs.Common.{◌≡◌, ◌<◌, length}
use Rattle.std.specs.Prelude.{IfSome}
use Rattle.fp_facts.specs.Resolution.{first_given}
use Rattle.fp_hier.specs.Given.{given_by, is_instance}
use Rattle.fp_hier.specs.Lineages.{classes_up, rest_of}
use Rattle.fp_hier.proofs.resolution.instance_declaration.Given as goal

abbrev pub invariant-loop-id : goal.invariant-loop-id
invariant-loop-id l = record {
  same : first_given (given_by l.set.classes is_instance l.signature.name l.signature.descr) (rest_of l.set.classes l.rest) ≡ first_given (given_by l.set.classes is_instance l.signature.name l.signature.descr) (classes_up l.set.classes l.class);
  known : IfSome l.rest.first (λ id. id < length l.set.classes);
}

abbrev pub decreases-loop-id : goal.decreases-loop-id
decreases-loop-id l = l.rest.most
