use Rattle.std.proofs.Common.{ap₂, ◌∙◌}
use Rattle.std.proofs.lemmas.Option.{get_or_from_slice_get}
use Rattle.fp_extract.specs.Rooms.{call_cost, left_without}
use Rattle.fp_extract.proofs.calls.CallTable.meet.Goals as goal

pub returns-clause-left : goal.returns-clause-left
returns-clause-left c =
    let told = c.in_ok-number.ensures in
    let item = c.index.result.now in
    let cost = c.index.ensures ∙ get_or_from_slice_get c.know.new.self.costs.items c.in_ok-number.number (call_cost c.args.set.now c.args.reference) item told.cost in
    c.without-self.ensures ∙ ap₂ left_without told.left cost
