use Rattle.fp_class.proofs.SoundMethods.{sound_methods}
use Rattle.fp_class.proofs.naming.to_class.Goals as goal

pub returns-clause-sound : goal.returns-clause-sound
returns-clause-sound c = sound_methods c.class.new.names c.in_ok-class.class c.args.raw.now c.requires c.in_ok-class.ensures.class
