use Rattle.std.proofs.Common.{◌≡◌, take}
use Rattle.std.specs.List.{flat_map}
use Rattle.std.specs.Option.{option_to_list}
use Rattle.fp_hier.specs.Bits.{place_in}
use Rattle.fp_hier.proofs.bits.places.Given as goal

abbrev pub invariant-loop-method : goal.invariant-loop-method
invariant-loop-method l =
    l.places.items ≡ flat_map (λ m. option_to_list (place_in l.targets m)) (take l.method-index l.methods)
