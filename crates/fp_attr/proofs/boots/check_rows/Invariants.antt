use Rattle.std.proofs.Common.{◌≡◌, ◌+◌, drop, length}
use Rattle.std.specs.List.{flat_map}
use Rattle.fp_model.specs.References.{each_checked}
use Rattle.fp_model.specs.Spelling.{spelled_boot}
use Rattle.fp_attr.specs.Attributes.{boot_checked}
use Rattle.fp_attr.proofs.boots.check_rows.Given as goal

-- what is left to check leads where the whole does, and ends where it does
abbrev pub invariant-loop-row : goal.invariant-loop-row
invariant-loop-row l = record {
  rest : each_checked spelled_boot (boot_checked l.entries) l.next (drop l.row-index l.rows) ≡ each_checked spelled_boot (boot_checked l.entries) l.at l.rows;
  at : l.next + length (flat_map spelled_boot (drop l.row-index l.rows)) ≡ l.at + length (flat_map spelled_boot l.rows);
}
