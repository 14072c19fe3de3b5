use Rattle.fp_report.proofs.SiteLemmas.{starts}
use Rattle.fp_report.proofs.targets.are_ascending.Goals as goal

pub loop-pair-init : goal.loop-pair-init
loop-pair-init c = starts c.args.targets.now
