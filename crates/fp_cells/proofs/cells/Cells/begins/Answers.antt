use Rattle.std.proofs.Common.{◌≡◌, None, Some, ap, sym, ◌∙◌}
use Rattle.std.specs.Option.{option_map}
use Rattle.fp_cells.specs.Cells.{cell_at, cell_from}
use Rattle.fp_cells.specs.Spots.{cells_of}
use Rattle.fp_cells.proofs.BeginLemmas.{begins_found, begins_none, told_cell}
use Rattle.fp_cells.proofs.cells.Cells.begins.Goals as goal

pub returns-in_err-kind-clause-cell : goal.returns-in_err-kind-clause-cell
returns-in_err-kind-clause-cell c =
    c.from_residual.ensures ∙ ap (option_map told_cell) (sym (begins_none c.args.self.now c.args.place (sym c.in_err-kind.ensures.cell)))

pub returns-in_err-spot-clause-cell : goal.returns-in_err-spot-clause-cell
returns-in_err-spot-clause-cell c =
    let es = c.self.inside.spots.entries in
    let at : cell_at (cells_of es) c.args.place ≡ Some (c.in_ok-kind.kind, c.in_ok-kind.entity) = ap (λ v. cell_at v c.args.place) c.self.view_is ∙ sym c.in_ok-kind.ensures.cell in
    c.from_residual-in_err-spot.ensures
    ∙ begins_found c.in_ok-kind.kind c.in_ok-kind.entity es c.args.place None c.self.invariant.numbered c.self.invariant.distinct at c.in_err-spot.ensures.value
    ∙ ap (λ v. option_map told_cell (cell_from v 0 c.args.place)) c.self.view_is

pub returns-clause-cell : goal.returns-clause-cell
returns-clause-cell c =
    let es = c.self.inside.spots.entries in
    let at : cell_at (cells_of es) c.args.place ≡ Some (c.in_ok-kind.kind, c.in_ok-kind.entity) = ap (λ v. cell_at v c.args.place) c.self.view_is ∙ sym c.in_ok-kind.ensures.cell in
    c.begun.ensures
    ∙ begins_found c.in_ok-kind.kind c.in_ok-kind.entity es c.args.place (Some c.in_ok-spot.spot.now) c.self.invariant.numbered c.self.invariant.distinct at c.in_ok-spot.ensures.value
    ∙ ap (λ v. option_map told_cell (cell_from v 0 c.args.place)) c.self.view_is
