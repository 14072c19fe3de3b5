-- A failed reading notes its call.
use Rattle.std.proofs.Common.{rules}
use Rattle.fp_base.proofs.CallLemmas.{cause-noted}
use Rattle.fp_base.proofs.host.host_dir.HostDirClassDir.read.Goals as goal

pub returns-in-Err-Failed-clause-cause : goal.returns-in-Err-Failed-clause-cause
returns-in-Err-Failed-clause-cause g c =
    cause-noted c.args.self.now.failed _ _ _ (search rules) (search rules) c.note_failed.ensures.present
