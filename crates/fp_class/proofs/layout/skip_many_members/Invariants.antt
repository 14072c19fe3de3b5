use Rattle.std.proofs.Common.{◌≡◌, ◌-◌}
use Rattle.fp_class.specs.Layout.{member_skipped}
use Rattle.fp_class.specs.Layout.{many_skipped}
use Rattle.fp_class.proofs.layout.skip_many_members.Given as goal

-- what is left to pass over leads where the whole does
abbrev pub invariant-loop-left : goal.invariant-loop-left
invariant-loop-left l = many_skipped (member_skipped l.bytes) (l.count - l._left) l.next ≡ many_skipped (member_skipped l.bytes) l.count l.at
