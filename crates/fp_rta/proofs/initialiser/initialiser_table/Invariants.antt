use Rattle.std.proofs.Common.{◌≡◌, map}
use Rattle.std.specs.List.{range_with_len}
use Rattle.fp_rta.specs.CallGraph.{initialiser}
use Rattle.fp_rta.proofs.initialiser.initialiser_table.Given as goal

abbrev pub invariant-loop-class : goal.invariant-loop-class
invariant-loop-class l = l.table.items ≡ map (initialiser l.set) (range_with_len 0 l.class)
