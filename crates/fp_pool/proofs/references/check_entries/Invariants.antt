use Rattle.std.proofs.Common.{◌≡◌, ◌+◌, drop, length}
use Rattle.std.specs.List.{flat_map}
use Rattle.fp_model.specs.References.{entries_checked}
use Rattle.fp_model.specs.Spelling.{spelled_entry}
use Rattle.fp_pool.proofs.references.check_entries.Given as goal

-- what is left to check leads where the whole does, and ends where it does
abbrev pub invariant-loop-entry : goal.invariant-loop-entry
invariant-loop-entry l =
    (entries_checked l.entries l.next (drop l.entry-index l.entries) ≡ entries_checked l.entries l.at l.entries)
    × (l.next + length (flat_map spelled_entry (drop l.entry-index l.entries)) ≡ l.at + length (flat_map spelled_entry l.entries))
