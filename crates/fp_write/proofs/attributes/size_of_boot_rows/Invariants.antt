use Rattle.std.proofs.Common.{◌≡◌, ◌+◌, ◌%◌, ◌^◌, length, take}
use Rattle.std.specs.List.{flat_map}
use Rattle.fp_model.specs.Spelling.{spelled_boot}
use Rattle.fp_write.proofs.attributes.size_of_boot_rows.Given as goal

abbrev pub invariant-loop-row : goal.invariant-loop-row
invariant-loop-row l = l.total ≡ (2 + length (flat_map spelled_boot (take l.row-index l.rows))) % 2 ^ 32
