use Rattle.std.proofs.Common.{◌≡◌, ◌<◌, ◌++◌, length}
use Rattle.std.specs.Prelude.{IfSome}
use Rattle.std.specs.List.{flat_map}
use Rattle.fp_facts.specs.Hierarchy.{superinterfaces_at}
use Rattle.fp_hier.specs.Lineages.{classes_up, rest_of}
use Rattle.fp_hier.proofs.receivers.own_names.push_superinterfaces.Given as goal

abbrev pub invariant-loop-id : goal.invariant-loop-id
invariant-loop-id l = record {
  same : (l.names.items ++ flat_map (superinterfaces_at l.set.classes) (rest_of l.set.classes l.rest)) ≡ (l.fn.names.items ++ flat_map (superinterfaces_at l.set.classes) (classes_up l.set.classes l.class));
  known : IfSome l.rest.first (λ id. id < length l.set.classes);
}

abbrev pub decreases-loop-id : goal.decreases-loop-id
decreases-loop-id l = l.rest.most
