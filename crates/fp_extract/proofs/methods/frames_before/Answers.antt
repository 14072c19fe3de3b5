use Rattle.fp_extract.proofs.FrameLists.{frames-are}
use Rattle.fp_extract.proofs.methods.frames_before.Goals as goal

pub returns-in-Ok-clause-frames : goal.returns-in-Ok-clause-frames
returns-in-Ok-clause-frames c = frames-are c.args.method.now c.args.code.now c.in-Ok.field-0 c.in-Ok.ensures.origins
