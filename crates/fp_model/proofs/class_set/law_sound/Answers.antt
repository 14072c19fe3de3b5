-- Refused exactly where not sound.
use Rattle.fp_model.proofs.Soundness.{sound_where_unrefused, unrefused_where_sound, chain_ends}
use Rattle.fp_model.proofs.class_set.law_sound.Goals as goal

pub returns-clause-sound : goal.returns-clause-sound
returns-clause-sound c = sound_where_unrefused

pub returns-clause-unrefused : goal.returns-clause-unrefused
returns-clause-unrefused c = unrefused_where_sound

pub returns-clause-ends : goal.returns-clause-ends
returns-clause-ends c = chain_ends
