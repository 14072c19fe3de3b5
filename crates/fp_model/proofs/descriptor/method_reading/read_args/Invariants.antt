use Rattle.std.proofs.Common.{◌≡◌, ◌<◌, ◌-◌, List, ℕ, length}
use Rattle.std.specs.List.{flat_map, AllZip}
use Rattle.fp_base.specs.Names.{with_names}
use Rattle.fp_model.specs.Descriptor.{kind_names, IsKindOf}
use Rattle.fp_model.proofs.MethodKinds.{UpTo}
use Rattle.fp_model.proofs.descriptor.method_reading.read_args.Given as goal

-- the field descriptors up to here are read
abbrev pub invariant-loop-at : goal.invariant-loop-at
invariant-loop-at l = (l.at < length l.text) × (done : List (List ℕ)) × UpTo l.text l.at done × (l.names ≡ with_names l.fn.names (flat_map kind_names done)) × AllZip (IsKindOf l.names) done l.args.items

abbrev pub decreases-loop-at : goal.decreases-loop-at
decreases-loop-at l = length l.text - l.at
