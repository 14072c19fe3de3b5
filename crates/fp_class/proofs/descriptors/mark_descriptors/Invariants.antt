use Rattle.std.proofs.Common.{◌≡◌, map, take}
use Rattle.fp_class.specs.Descriptors.{is_descriptor_entry}
use Rattle.fp_class.proofs.descriptors.mark_descriptors.Given as goal

abbrev pub invariant-loop-entry : goal.invariant-loop-entry
invariant-loop-entry l = l.marks.items ≡ map is_descriptor_entry (take l.entry-index l.entries)
