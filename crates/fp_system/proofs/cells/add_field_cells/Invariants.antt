use Rattle.std.proofs.Common.{◌≡◌, ◌++◌}
use Rattle.fp_system.proofs.JavaCellLemmas.{fields_upto}
use Rattle.fp_system.proofs.cells.add_field_cells.Given as goal

abbrev pub invariant-loop-id : goal.invariant-loop-id
invariant-loop-id l = l.cells ≡ l.fn.cells ++ fields_upto l.kind l.bits l.id
