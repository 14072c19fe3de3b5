use Rattle.std.proofs.Common.{◌≡◌, ◌++◌, take}
use Rattle.std.specs.List.{flat_map}
use Rattle.fp_model.specs.Spelling.{spelled_member}
use Rattle.fp_write.proofs.members.put_members.Given as goal

abbrev pub invariant-loop-member : goal.invariant-loop-member
invariant-loop-member l = l.out.items ≡ l.initial.out.items ++ flat_map spelled_member (take l.member-index l.members)
