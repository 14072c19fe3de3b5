-- The methods so far, and those of the superinterfaces of the classes that are still to come, are all of them.
use Rattle.std.proofs.Common.{◌≡◌, ◌<◌, ◌++◌, length}
use Rattle.std.specs.Prelude.{IfSome, Some, slice_get}
use Rattle.std.specs.List.{flat_map}
use Rattle.fp_model.specs.declared.class.Class.{Class}
use Rattle.fp_facts.specs.Hierarchy.{classes_among, superinterfaces_at}
use Rattle.fp_facts.specs.Selection as selection
use Rattle.fp_hier.specs.Given.{is_open_with_code}
use Rattle.fp_hier.specs.Lineages.{rest_of}
use Rattle.fp_hier.proofs.InterfaceMethods.{all_of}
use Rattle.fp_hier.proofs.resolution.defaults.default_methods.Given as goal

abbrev pub invariant-loop-id : goal.invariant-loop-id
invariant-loop-id l = record {
  known : IfSome l.rest.first (λ id. id < length l.set.classes);
  pushed : (d : Class) → slice_get l.set.classes l.class ≡ Some d →
      l.methods.items ++ flat_map (λ id. all_of l.set.classes is_open_with_code l.signature.name l.signature.descr (classes_among l.set.classes (superinterfaces_at l.set.classes id))) (rest_of l.set.classes l.rest)
      ≡ selection.default_methods l.set.classes d l.signature.name l.signature.descr;
}

abbrev pub decreases-loop-id : goal.decreases-loop-id
decreases-loop-id l = l.rest.most
