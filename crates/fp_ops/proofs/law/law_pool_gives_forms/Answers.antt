use Rattle.fp_ops.proofs.Referred.{gives_forms}
use Rattle.fp_ops.proofs.law.law_pool_gives_forms.Goals as goal

pub returns : goal.returns
returns c = gives_forms
