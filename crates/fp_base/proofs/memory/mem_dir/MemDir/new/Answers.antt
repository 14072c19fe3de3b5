-- A map has no path twice.
use Rattle.fp_base.proofs.FileMapLemmas.{distinct-told}
use Rattle.fp_base.proofs.memory.mem_dir.MemDir.new.Goals as goal

pub invariant_of-result : goal.invariant_of-result
invariant_of-result c = (distinct-told c.args.files.entries c.len-paths.ensures.unique, tt)
