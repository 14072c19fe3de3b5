use Rattle.std.proofs.Common.{◌≡◌, ◌++◌, take}
use Rattle.std.specs.List.{flat_map}
use Rattle.fp_model.specs.Spelling.{spelled_entry}
use Rattle.fp_write.proofs.pool.put_entries.Given as goal

abbrev pub invariant-loop-entry : goal.invariant-loop-entry
invariant-loop-entry l = l.out.items ≡ l.initial.out.items ++ flat_map spelled_entry (take l.entry-index l.entries)
