use Rattle.std.proofs.Common.{◌≡◌, ◌-◌}
use Rattle.fp_model.specs.Decoding as decoding
use Rattle.fp_ops.proofs.switches.pairs_end.Given as goal

-- what is left to read leads where the whole does
abbrev pub invariant-loop-left : goal.invariant-loop-left
invariant-loop-left l = decoding.pairs_end l.op_at (l.count - l._left) l.least l.bytes l.next ≡ decoding.pairs_end l.op_at l.count 0 l.bytes l.at
