use Rattle.std.proofs.Common.{◌≡◌, get_or}
use Rattle.fp_flow.specs.EdgeCounts.{plain_count}
use Rattle.fp_flow.proofs.CountedEdges.{counted-more}
use Rattle.fp_flow.proofs.control.count_plain.Goals as goal

pub loop-placed-preserved : goal.loop-placed-preserved
loop-placed-preserved c =
    let items = c.as_slice-placed-items.result.now in
    let placed = c.placed-item.result in
    let one : c.plain_edges.result ≡ plain_count (get_or items c.loop-placed.placed-index placed) = rw (← c.placed-item.is) (c.plain_edges.ensures placed.0) in
    counted-more plain_count items c.loop-placed.placed-index placed c.loop-placed.count c.saturating_add-count.result c.plain_edges.result
    c.loop-placed-test.true c.loop-placed.invariant one c.saturating_add-count.ensures
