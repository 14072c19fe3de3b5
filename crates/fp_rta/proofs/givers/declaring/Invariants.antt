use Rattle.std.proofs.Common.{◌≡◌, ◌<◌, ℕ, All, length, take}
use Rattle.std.specs.List.{flat_map}
use Rattle.std.specs.Option.{option_to_list}
use Rattle.fp_facts.specs.Resolution.{class_of_method}
use Rattle.fp_rta.proofs.givers.declaring.Given as goal

abbrev pub invariant-loop-method : goal.invariant-loop-method
invariant-loop-method l = record {
  classes : l.classes.items ≡ flat_map (λ (m : ℕ). option_to_list (class_of_method l.set.classes m)) (take l.method-index l.methods);
  known : All (λ (class : ℕ). class < length l.set.classes) l.classes.items;
}
