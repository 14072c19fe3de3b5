use Rattle.fp_ops.proofs.DecodedCode.{decoded_sound}
use Rattle.fp_ops.proofs.law.law_decoded_gives_forms.Goals as goal

pub returns : goal.returns
returns c = decoded_sound
