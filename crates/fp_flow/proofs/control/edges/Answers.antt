use Rattle.std.proofs.Common.{◌∙◌, arith}
use Rattle.fp_flow.proofs.CountedEdges.{edges-few}
use Rattle.fp_flow.proofs.control.edges.Goals as goal

pub returns-clause-few : goal.returns-clause-few
returns-clause-few c =
    edges-few c.args.code.now c.as_slice.result.now c.count_edges-count.result 67108864 c.from_vec.result (c.as_slice.ensures.value ∙ c.in_ok-pcs.ensures)
    c.count_edges-count.ensures c.if-count-gt-MOST_EDGES.false (omega arith) (c.from_vec.ensures ∙ c.in_ok-edges.ensures)
