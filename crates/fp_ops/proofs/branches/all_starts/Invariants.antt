use Rattle.std.proofs.Common.{◌≡◌, ◌+◌, ◌*◌, ◌-◌}
use Rattle.std.specs.List.{list_all}
use Rattle.fp_model.specs.Branches.{far_targets}
use Rattle.fp_model.specs.Entries.{passes}
use Rattle.fp_ops.specs.Marks.{is_marked}
use Rattle.fp_ops.proofs.branches.all_starts.Given as goal

-- what is left decides
abbrev pub invariant-loop-left : goal.invariant-loop-left
invariant-loop-left l = record {
  at : l.at ≡ 12 + l.step * l._left;
  rest : list_all (passes (is_marked l.marks)) (far_targets l.pc l.step l.args (l.count - l._left) l.at) ≡ list_all (passes (is_marked l.marks)) (far_targets l.pc l.step l.args l.count 12);
}
