use Rattle.std.proofs.Common.{◌≡◌, ◌-◌, []}
use Rattle.fp_model.specs.Reading.{many_at}
use Rattle.fp_attr.specs.Codes.{row_at}
use Rattle.fp_attr.proofs.cut.many_rows.Given as goal

-- what is left to read leads where the whole does
abbrev pub invariant-loop-left : goal.invariant-loop-left
invariant-loop-left l = many_at (row_at l.bytes) (l.count - l._left) l.rows.items l.next ≡ many_at (row_at l.bytes) l.count [] l.at
