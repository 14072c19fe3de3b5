use Rattle.std.proofs.Common.{◌≡◌, ◌-◌, []}
use Rattle.fp_model.specs.Reading.{many_at}
use Rattle.fp_attr.specs.Attributes.{attribute_at}
use Rattle.fp_class.proofs.members.many_attributes.Given as goal

-- what is left to read leads where the whole does
abbrev pub invariant-loop-left : goal.invariant-loop-left
invariant-loop-left l = many_at (attribute_at l.pool.entries l.owner l.bytes) (l.count - l._left) l.attributes.items l.next ≡ many_at (attribute_at l.pool.entries l.owner l.bytes) l.count [] l.at
