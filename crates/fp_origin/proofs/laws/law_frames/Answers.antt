use Rattle.fp_origin.proofs.ReachedOrigins.{origins-reach, origins-reached}
use Rattle.fp_origin.proofs.laws.law_frames.Goals as goal

pub returns-clause-reached : goal.returns-clause-reached
returns-clause-reached c = λ m code o sound is kinded origins number h reached. origins-reached m code o sound is kinded origins number h reached

pub returns-clause-reaches : goal.returns-clause-reaches
returns-clause-reaches c = λ m code o sound is kinded origins number words h there. origins-reach m code o sound is kinded origins number words h there
