use Rattle.std.proofs.Common.{◌≡◌, ◌-◌, []}
use Rattle.std.specs.List.{list_any}
use Rattle.fp_class.specs.ClassFile.{are_boots, class_attribute_at}
use Rattle.fp_class.specs.Members.{many_after}
use Rattle.fp_class.proofs.file.many_attributes.Given as goal

-- what is left to read leads where the whole does, and it is known whether there are bootstrap methods
abbrev pub invariant-loop-left : goal.invariant-loop-left
invariant-loop-left l = record {
  rest : many_after (class_attribute_at l.pool.entries l.bytes) (l.count - l._left) l.attributes.items l.next ≡ many_after (class_attribute_at l.pool.entries l.bytes) l.count [] l.at;
  boots : l.has_boots ≡ list_any are_boots l.attributes.items;
}
