-- The methods so far, and those of the names from here on, are all of them.
use Rattle.std.proofs.Common.{◌≡◌, ◌++◌, drop}
use Rattle.std.specs.List.{flat_map}
use Rattle.std.specs.Option.{option_to_list}
use Rattle.fp_facts.specs.Hierarchy.{classes_among}
use Rattle.fp_hier.specs.Given.{given_by_interface, is_open_with_code}
use Rattle.fp_hier.proofs.resolution.defaults.push_of_names.Given as goal

abbrev pub invariant-loop-interface : goal.invariant-loop-interface
invariant-loop-interface l =
    l.methods.items ++ flat_map (λ id. option_to_list (given_by_interface l.set.classes is_open_with_code l.signature.name l.signature.descr id)) (classes_among l.set.classes (drop l.interface-index l.names))
    ≡ l.fn.methods.items ++ flat_map (λ id. option_to_list (given_by_interface l.set.classes is_open_with_code l.signature.name l.signature.descr id)) (classes_among l.set.classes l.names)
