use Rattle.fp_attr.proofs.Spelled.{skipped_so}
use Rattle.fp_attr.proofs.attribute.law_skipped.Goals as goal

pub returns : goal.returns
returns c = skipped_so
