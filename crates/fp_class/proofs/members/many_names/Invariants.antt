use Rattle.std.proofs.Common.{◌≡◌, ◌-◌, []}
use Rattle.fp_model.specs.Reading.{many_at}
use Rattle.fp_class.specs.Members.{name_at}
use Rattle.fp_class.proofs.members.many_names.Given as goal

-- what is left to read leads where the whole does
abbrev pub invariant-loop-left : goal.invariant-loop-left
invariant-loop-left l = many_at (name_at l.entries l.bytes) (l.count - l._left) l.names.items l.next ≡ many_at (name_at l.entries l.bytes) l.count [] l.at
