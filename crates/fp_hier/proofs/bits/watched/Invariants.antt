use Rattle.std.proofs.Common.{◌≡◌, ℕ, filter, map, take}
use Rattle.fp_hier.specs.Bits.{as_reached, bits_without, has_bits}
use Rattle.fp_hier.specs.declared.targets.Targets.{Targets}
use Rattle.fp_hier.proofs.bits.watched.Given as goal

abbrev pub invariant-loop-class : goal.invariant-loop-class
invariant-loop-class l =
    l.watch.items
    ≡ filter has_bits (map (λ (t : ℕ × Targets). (t.0, bits_without l.targets l.always (as_reached t.1))) (take l.class-index l.by_class))
