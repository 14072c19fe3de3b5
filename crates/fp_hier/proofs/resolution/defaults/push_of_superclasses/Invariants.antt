-- The methods so far, and those of the classes that are still to come, are all of them.
use Rattle.std.proofs.Common.{◌≡◌, ◌<◌, ◌++◌, length}
use Rattle.std.specs.Prelude.{IfSome}
use Rattle.std.specs.List.{flat_map}
use Rattle.std.specs.Option.{option_to_list}
use Rattle.fp_facts.specs.Hierarchy.{classes_among, superclasses}
use Rattle.fp_hier.specs.Given.{given_by_interface, is_open_with_code}
use Rattle.fp_hier.specs.Lineages.{rest_of}
use Rattle.fp_hier.proofs.resolution.defaults.push_of_superclasses.Given as goal

abbrev pub invariant-loop-id : goal.invariant-loop-id
invariant-loop-id l = record {
  known : IfSome l.rest.first (λ id. id < length l.set.classes);
  pushed : l.methods.items ++ flat_map (λ id. option_to_list (given_by_interface l.set.classes is_open_with_code l.signature.name l.signature.descr id)) (rest_of l.set.classes l.rest)
      ≡ l.fn.methods.items ++ flat_map (λ id. option_to_list (given_by_interface l.set.classes is_open_with_code l.signature.name l.signature.descr id)) (classes_among l.set.classes (superclasses l.set.classes l.class));
}

abbrev pub decreases-loop-id : goal.decreases-loop-id
decreases-loop-id l = l.rest.most
