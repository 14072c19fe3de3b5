use Rattle.std.proofs.Common.{◌≡◌, ◌-◌, []}
use Rattle.fp_model.specs.Decoding.{all_at, ins_at}
use Rattle.fp_ops.proofs.reading.instructions.Given as goal

-- what is left to read leads where the whole does
abbrev pub invariant-loop-left : goal.invariant-loop-left
invariant-loop-left l = all_at (ins_at l.entries l.max_locals l.start l.bytes) l.bytes (l.most - l._left) l.code.items l.next ≡ all_at (ins_at l.entries l.max_locals l.start l.bytes) l.bytes l.most [] l.start
