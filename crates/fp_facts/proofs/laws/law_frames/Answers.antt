use Rattle.fp_facts.proofs.JoinedFrames.{frames-lattice}
use Rattle.fp_facts.proofs.laws.law_frames.Goals as goal

pub returns : goal.returns
returns g c = λ w locals stack laws. frames-lattice w laws locals stack
