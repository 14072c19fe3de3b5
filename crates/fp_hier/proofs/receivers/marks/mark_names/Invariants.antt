use Rattle.std.proofs.Common.{take}
use Rattle.fp_hier.specs.BitRows.{Marks}
use Rattle.fp_hier.specs.Marks.{marks_any}
use Rattle.fp_hier.proofs.receivers.marks.mark_names.Given as goal

abbrev pub invariant-loop-name : goal.invariant-loop-name
invariant-loop-name l = Marks l.class (λ row. marks_any l.set row (take l.name-index l.names)) l.fn.rows l.rows
