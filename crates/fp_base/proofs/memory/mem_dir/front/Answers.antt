-- The limit is that of `first_bytes`.
use Rattle.std.proofs.Common.{rules}
use Rattle.fp_base.specs.Files.{first_bytes}
use Rattle.fp_base.proofs.memory.mem_dir.front.Goals as goal

pub returns : goal.returns
unfolding first_bytes
returns c = search rules
