use Rattle.std.proofs.Common.{◌≡◌, ◌+◌, length, drop}
use Rattle.std.specs.List.{flat_map}
use Rattle.fp_model.specs.Spelling.{spelled_ins}
use Rattle.fp_ops.proofs.branches.total_size.Given as goal

-- the size of those so far and of those that are left is the whole
abbrev pub invariant-loop-ins : goal.invariant-loop-ins
invariant-loop-ins l = l.total + length (flat_map spelled_ins (drop l.ins-index l.code)) ≡ length (flat_map spelled_ins l.code)
