use Rattle.std.proofs.Common.{List, subst, sym}
use Rattle.fp_cells.specs.Cells.{Cell}
use Rattle.fp_rta.specs.CallGraph.{HasCells}
use Rattle.fp_tests.proofs.GraphCells.{has-cells}
use Rattle.fp_tests.proofs.tests.rta.graph_cells.Goals as goal

pub returns : goal.returns
returns c = subst (λ (cells : List Cell). HasCells c.args.facts.now cells) (sym c.in_ok-add_all_cells.ensures) (has-cells c.args.facts.now _)
