use Rattle.std.proofs.Common.{◌≡◌, ◌-◌, ◌<◌, ◌≤◌, ℕ, List, ◌++◌, length, take}
use Rattle.fp_model.specs.Descriptor.{closes_behind, is_method_descriptor}
use Rattle.fp_model.proofs.descriptor.method.bad_place_of_method.Given as goal

-- up to here there are a '(' and field descriptors
abbrev pub invariant-loop-at : goal.invariant-loop-at
invariant-loop-at l = (0 < l.at) × (l.at ≤ length l.text) × ((more : List ℕ) → is_method_descriptor (take l.at l.text ++ more) ≡ closes_behind 0 more)

abbrev pub decreases-loop-at : goal.decreases-loop-at
decreases-loop-at l = length l.text - l.at
