use Rattle.std.proofs.Common.{◌<◌, All, length}
use Rattle.std.specs.Prelude.{IfSome}
use Rattle.fp_hier.proofs.receivers.marking.unmarked_up.Given as goal

abbrev pub invariant-loop-id : goal.invariant-loop-id
invariant-loop-id l = record {
  known : IfSome l.rest.first (λ id. id < length l.set.classes);
  all : All (λ id. id < length l.set.classes) l.ids.items;
}

abbrev pub decreases-loop-id : goal.decreases-loop-id
decreases-loop-id l = l.rest.most
