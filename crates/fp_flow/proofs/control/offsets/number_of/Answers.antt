use Rattle.std.proofs.Common.{◌≡◌, ◌≤◌, length, arith}
use Rattle.std.proofs.lemmas.List.Sorted.{searched}
use Rattle.std.proofs.lemmas.Result.{MatchResult-at_ok, MatchResult-at_err}
use Rattle.fp_facts.specs.Edges.{number_at}
use Rattle.fp_flow.proofs.RisingOffsets.{offsets-few, offsets-not_fall, number-found}
use Rattle.fp_flow.proofs.control.offsets.number_of.Goals as goal

pub overflow_cast-result : goal.overflow_cast-result
overflow_cast-result c =
    let few : length c.args.pcs.now ≤ 65536 = offsets-few c.args.pcs.now 65536 c.requires (λ k. omega (arith, c.type_inv.pcs k)) in
    omega (arith, c.in-Ok.ensures.bound)

pub overflow_cast-result-in-Err : goal.overflow_cast-result-in-Err
overflow_cast-result-in-Err c =
    let few : length c.args.pcs.now ≤ 65536 = offsets-few c.args.pcs.now 65536 c.requires (λ k. omega (arith, c.type_inv.pcs k)) in
    omega arith

pub returns-in-Ok : goal.returns-in-Ok
returns-in-Ok c =
    let pcs = c.args.pcs.now in
    let found = searched pcs c.args.pc c.binary_search.result c.binary_search.ensures.position (offsets-not_fall pcs c.requires) in
    MatchResult-at_ok (λ i. i ≡ number_at pcs c.args.pc) (λ i. length pcs ≡ number_at pcs c.args.pc) c.in-Ok.at c.in-Ok.is
    (number-found pcs c.args.pc c.binary_search.result c.requires found)

pub returns-in-Err : goal.returns-in-Err
returns-in-Err c =
    let pcs = c.args.pcs.now in
    let found = searched pcs c.args.pc c.binary_search.result c.binary_search.ensures.position (offsets-not_fall pcs c.requires) in
    MatchResult-at_err (λ i. i ≡ number_at pcs c.args.pc) (λ i. length pcs ≡ number_at pcs c.args.pc) c.in-Err.field-0 c.in-Err.is
    (number-found pcs c.args.pc c.binary_search.result c.requires found)
