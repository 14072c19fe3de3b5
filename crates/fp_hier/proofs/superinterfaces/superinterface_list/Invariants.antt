-- The walk on from here leads where the whole walk does.
use Rattle.std.proofs.Common.{◌≡◌, ◌<◌, ◌+◌, All, length, reverse}
use Rattle.fp_facts.specs.Hierarchy.{superinterfaces_at}
use Rattle.fp_hier.specs.Walks.{AreMarked, unmet_interfaces, walk_from}
use Rattle.fp_hier.proofs.superinterfaces.superinterface_list.Given as goal

abbrev pub invariant-loop-name : goal.invariant-loop-name
invariant-loop-name l = record {
  marked : AreMarked (length l.set.names) l.walk l.marks l.met;
  within : All (λ n. n < length l.set.names) (reverse l.waiting);
  walk : walk_from l.set.classes l.met (reverse l.waiting) ≡ superinterfaces_at l.set.classes l.id;
}

abbrev pub decreases-loop-name : goal.decreases-loop-name
decreases-loop-name l = unmet_interfaces l.set.classes l.met + length l.waiting
