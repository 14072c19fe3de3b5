use Rattle.fp_hier.proofs.CallerClasses.{told-by}
use Rattle.fp_hier.proofs.hier.Hier.reference_targets.Goals as goal

pub returns : goal.returns
returns c = told-by _ _ c.in_ok-reached.reached _ c.in_ok-reached.ensures c.call_targets.ensures
