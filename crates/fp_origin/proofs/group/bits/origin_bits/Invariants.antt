use Rattle.std.proofs.Common.{◌≡◌, drop}
use Rattle.fp_origin.specs.Groups.{bits_in}
use Rattle.fp_origin.proofs.group.bits.origin_bits.Given as goal

abbrev pub invariant-loop-at : goal.invariant-loop-at
invariant-loop-at l = l.bits ≡ bits_in (drop l.at l.group) l.origin
