-- The classes that are left give what all of them do.
use Rattle.std.proofs.Common.{◌≡◌, ◌<◌, length}
use Rattle.std.specs.Prelude.{IfSome}
use Rattle.fp_facts.specs.Resolution.{declared_method, first_given}
use Rattle.fp_hier.specs.Lineages.{classes_up, rest_of}
use Rattle.fp_hier.proofs.resolution.declared_above.Given as goal

abbrev pub invariant-loop-id : goal.invariant-loop-id
invariant-loop-id l = record {
  same : first_given (declared_method l.set.classes l.signature.name l.signature.descr) (rest_of l.set.classes l.rest) ≡ first_given (declared_method l.set.classes l.signature.name l.signature.descr) (classes_up l.set.classes l.class);
  known : IfSome l.rest.first (λ id. id < length l.set.classes);
}

abbrev pub decreases-loop-id : goal.decreases-loop-id
decreases-loop-id l = l.rest.most
