use Rattle.std.proofs.Common.{◌≡◌, ◌+◌, List, drop, length}
use Rattle.std.specs.List.{flat_map}
use Rattle.fp_model.specs.declared.raw.attribute.BootRow.{BootRow}
use Rattle.fp_model.specs.References.{each_checked}
use Rattle.fp_model.specs.Spelling.{spelled_entry}
use Rattle.fp_class.specs.ClassFile.{boot_number_checked}
use Rattle.fp_class.proofs.file.check_boot_numbers.Given as goal

-- what is left to check leads where the whole does, and ends where it does
abbrev pub invariant-loop-entry : goal.invariant-loop-entry
invariant-loop-entry l = record {
  rest : (rows : List BootRow) → l.count ≡ length rows → each_checked spelled_entry (boot_number_checked rows) l.next (drop l.entry-index l.entries) ≡ each_checked spelled_entry (boot_number_checked rows) l.at l.entries;
  at : l.next + length (flat_map spelled_entry (drop l.entry-index l.entries)) ≡ l.at + length (flat_map spelled_entry l.entries);
}
