use Rattle.std.proofs.Common.{◌≡◌, drop}
use Rattle.fp_report.specs.Report.{targets_of}
use Rattle.fp_report.proofs.targets.first_targets.Given as goal

-- the first pair of the site is among those that are left
abbrev pub invariant-loop-other : goal.invariant-loop-other
invariant-loop-other l = targets_of l.targets l.site ≡ targets_of (drop l.other-index l.targets) l.site
