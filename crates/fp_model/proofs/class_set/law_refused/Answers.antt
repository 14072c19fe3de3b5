-- The first name of those to blame.
use Rattle.fp_model.proofs.Soundness.{duplicate_is_first, cycle_is_first}
use Rattle.fp_model.proofs.class_set.law_refused.Goals as goal

pub returns-clause-duplicate : goal.returns-clause-duplicate
returns-clause-duplicate c = duplicate_is_first

pub returns-clause-cycle : goal.returns-clause-cycle
returns-clause-cycle c = cycle_is_first
