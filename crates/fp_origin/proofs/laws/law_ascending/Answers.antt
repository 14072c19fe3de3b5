use Rattle.fp_origin.proofs.AscendingOrigins.{sets-ascend}
use Rattle.fp_origin.proofs.laws.law_ascending.Goals as goal

pub returns : goal.returns
returns c = λ m code o sound is origins number words h there. sets-ascend m code o sound is origins number words h there
