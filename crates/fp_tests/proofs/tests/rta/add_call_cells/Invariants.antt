use Rattle.std.proofs.Common.{◌≡◌, ◌++◌, map, take}
use Rattle.fp_rta.specs.CallGraph.{callees_cell}
use Rattle.fp_tests.proofs.tests.rta.add_call_cells.Given as goal

abbrev pub invariant-loop-site : goal.invariant-loop-site
invariant-loop-site l = l.cells ≡ l.initial.cells ++ map (callees_cell l.facts l.method) (take l.site-index l.sites)
