use Rattle.std.proofs.Common.{None, Some, is_some, ap, ◌∙◌}
use Rattle.fp_cells.specs.Cells.{first_place}
use Rattle.fp_cells.proofs.CellLemmas.{first_place-found, is_some-first_place}
use Rattle.fp_cells.proofs.cells.Cells.find.Goals as goal

pub returns-in_err-spot-clause-place : goal.returns-in_err-spot-clause-place
returns-in_err-spot-clause-place c =
    let es = c.self.inside.spots.entries in
    c.from_residual.ensures ∙ first_place-found c.args.kind c.args.entity es None c.self.invariant.numbered c.in_err-spot.ensures.value
    ∙ ap (λ v. first_place v c.args.kind c.args.entity) c.self.view_is

pub returns-in_err-spot-clause-known : goal.returns-in_err-spot-clause-known
returns-in_err-spot-clause-known c =
    ap is_some (returns-in_err-spot-clause-place c) ∙ is_some-first_place c.args.kind c.args.entity c.args.self.now

pub returns-clause-place : goal.returns-clause-place
returns-clause-place c =
    let es = c.self.inside.spots.entries in
    first_place-found c.args.kind c.args.entity es (Some c.in_ok-spot.spot.now) c.self.invariant.numbered c.in_ok-spot.ensures.value
    ∙ ap (λ v. first_place v c.args.kind c.args.entity) c.self.view_is

pub returns-clause-known : goal.returns-clause-known
returns-clause-known c = ap is_some (returns-clause-place c) ∙ is_some-first_place c.args.kind c.args.entity c.args.self.now
