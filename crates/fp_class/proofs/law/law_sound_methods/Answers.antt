use Rattle.fp_class.proofs.SoundMethods.{sound_methods}
use Rattle.fp_class.proofs.law.law_sound_methods.Goals as goal

pub returns : goal.returns
returns c = sound_methods
