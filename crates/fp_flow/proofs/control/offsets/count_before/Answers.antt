use Rattle.std.proofs.Common.{◌≡◌}
use Rattle.std.proofs.lemmas.List.Sorted.{searched}
use Rattle.std.proofs.lemmas.Result.{MatchResult-at_ok, MatchResult-at_err}
use Rattle.fp_flow.specs.EdgeCounts as defined
use Rattle.fp_flow.proofs.CountedEdges.{count-found}
use Rattle.fp_flow.proofs.RisingOffsets.{offsets-not_fall}
use Rattle.fp_flow.proofs.control.offsets.count_before.Goals as goal

pub returns-in-Ok : goal.returns-in-Ok
returns-in-Ok c =
    let pcs = c.args.pcs.now in
    let found = searched pcs c.args.pc c.binary_search.result c.binary_search.ensures.position (offsets-not_fall pcs c.requires) in
    MatchResult-at_ok (λ i. i ≡ defined.count_before pcs c.args.pc) (λ i. i ≡ defined.count_before pcs c.args.pc) c.in-Ok.at c.in-Ok.is
    (count-found pcs c.args.pc c.binary_search.result c.requires found)

pub returns-in-Err : goal.returns-in-Err
returns-in-Err c =
    let pcs = c.args.pcs.now in
    let found = searched pcs c.args.pc c.binary_search.result c.binary_search.ensures.position (offsets-not_fall pcs c.requires) in
    MatchResult-at_err (λ i. i ≡ defined.count_before pcs c.args.pc) (λ i. i ≡ defined.count_before pcs c.args.pc) c.in-Err.at c.in-Err.is
    (count-found pcs c.args.pc c.binary_search.result c.requires found)
