use Rattle.std.proofs.Common.{◌≡◌, map}
use Rattle.std.specs.List.{range_with_len}
use Rattle.fp_system.specs.ClassEquations.{class_task}
use Rattle.fp_system.proofs.declared.rows.class_rows.Given as goal

abbrev pub invariant-loop-id : goal.invariant-loop-id
invariant-loop-id l = l.rows.items ≡ map (class_task l.set l.cells) (range_with_len 0 l.id)
