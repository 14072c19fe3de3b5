use Rattle.std.proofs.Common.{◌≡◌, ◌-◌, []}
use Rattle.std.specs.Int.{w16}
use Rattle.fp_model.specs.Reading.{number_at, many_at}
use Rattle.fp_model.proofs.reading.many_u16s_at.Given as goal

-- what is left to read leads where the whole does
abbrev pub invariant-loop-left : goal.invariant-loop-left
invariant-loop-left l = many_at (number_at w16 l.bytes) (l.count - l._left) l.numbers.items l.next ≡ many_at (number_at w16 l.bytes) l.count [] l.at
