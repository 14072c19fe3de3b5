-- A failing reading notes its call.
use Rattle.std.proofs.Common.{rules}
use Rattle.fp_base.proofs.CallLemmas.{cause-noted}
use Rattle.fp_base.proofs.memory.mem_dir.MemDirClassDir.read.Goals as goal

pub returns-then-is_failing-clause-cause : goal.returns-then-is_failing-clause-cause
returns-then-is_failing-clause-cause c = cause-noted c.args.self.now.failed _ _ _ (search rules) (search rules) c.note_failed.ensures.present
