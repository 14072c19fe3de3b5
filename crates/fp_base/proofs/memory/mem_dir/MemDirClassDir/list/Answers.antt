-- A failing listing notes its call, and each listed path passes the test of its filter.
use Rattle.std.proofs.Common.{rules}
use Rattle.fp_base.proofs.CallLemmas.{cause-noted}
use Rattle.fp_base.proofs.FileLemmas.{class_paths-pass}
use Rattle.fp_base.proofs.memory.mem_dir.MemDirClassDir.list.Goals as goal

pub returns-then-is_failing-clause-cause : goal.returns-then-is_failing-clause-cause
returns-then-is_failing-clause-cause c = cause-noted c.args.self.now.failed _ _ _ (search rules) (search rules) c.note_failed.ensures.present

pub returns-clause-below : goal.returns-clause-below
returns-clause-below c = class_paths-pass c.args.self.now.files c.args.path.now _ (search rules)
