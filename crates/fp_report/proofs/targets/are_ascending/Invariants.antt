use Rattle.std.proofs.Common.{◌≡◌, ◌&&◌, drop}
use Rattle.fp_report.specs.Sites.{are_ascending, are_behind}
use Rattle.fp_report.proofs.targets.are_ascending.Given as goal

-- what is asked is the same of those that are left, behind the last one
abbrev pub invariant-loop-pair : goal.invariant-loop-pair
invariant-loop-pair l = are_ascending l.targets ≡ (are_behind l.last (drop l.pair-index l.targets) && are_ascending (drop l.pair-index l.targets))
