use Rattle.std.proofs.Common.{◌≡◌, ◌++◌, take, ℕ}
use Rattle.std.specs.List.{flat_map}
use Rattle.fp_hier.specs.declared.targets.Targets.{Targets}
use Rattle.fp_hier.proofs.bits.all_methods.Given as goal

abbrev pub invariant-loop-reached : goal.invariant-loop-reached
invariant-loop-reached l =
    l.methods.items ≡ l.always.methods ++ flat_map (λ (t : ℕ × Targets). t.1.methods) (take l.reached-index l.by_class)
