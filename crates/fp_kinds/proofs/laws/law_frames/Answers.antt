use Rattle.fp_kinds.proofs.ReachedFrames.{frames-reach, frames-reached}
use Rattle.fp_kinds.proofs.laws.law_frames.Goals as goal

pub returns-clause-reached : goal.returns-clause-reached
returns-clause-reached c = λ m code k sound is kinds number h reached. frames-reached m code k sound is kinds number h reached

pub returns-clause-reaches : goal.returns-clause-reaches
returns-clause-reaches c = λ m code k sound is kinds number frame h there. frames-reach m code k sound is kinds number frame h there
