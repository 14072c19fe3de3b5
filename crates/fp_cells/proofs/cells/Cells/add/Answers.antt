use Rattle.std.proofs.Common.{◌≡◌, ◌+◌, ◌<◌, ◌^◌, ◌++◌, ◌∷◌, [], false, ap, sym, ◌∙◌}
use Rattle.fp_cells.specs.Cells.{has_cell, places_of, total_places}
use Rattle.fp_cells.specs.Spots.{cells_of}
use Rattle.fp_cells.proofs.CellLemmas.{Added, added-whole}
use Rattle.fp_cells.proofs.cells.Cells.add.Goals as goal

-- what the map and the owners are once both have grown
all_added : (c : goal.In-Ok) → Added c.self.inside.spots.entries c.insert.new.self.entries c.resize.new.self.items (record { kind = c.args.kind; entity = c.args.entity; bits = c.args.bits })
all_added c =
    let es = c.self.inside.spots.entries in
    let absent : has_cell (cells_of es) c.args.kind c.args.entity ≡ false = ap (λ v. has_cell v c.args.kind c.args.entity) c.self.view_is ∙ c.requires.absent in
    let first : c.places-first.result ≡ total_places (cells_of es) = c.places-first.ensures.places ∙ ap total_places (sym c.self.view_is) in
    let few : total_places (cells_of es) + places_of c.args.bits < 2 ^ 32 = rw (← c.self.view_is) at c.requires.few in
    let end : c.places-first.result + c.count_places.result ≡ c.places-first.result + places_of c.args.bits = ap (λ n. c.places-first.result + n) c.count_places.ensures in
    added-whole es c.insert.new.self.entries c.self.inside.owners.items c.resize.new.self.items c.args.kind c.args.entity (record { first = c.places-first.result; bits = c.args.bits }) (c.places-first.result + c.count_places.result) c.self.inside.owners.len
    c.self.invariant absent few first c.self.inside.owners.ok.0 end c.in-Ok.ensures.entries c.in_ok-resize.ensures.items

pub invariant_of-self-in-Ok : goal.invariant_of-self-in-Ok
invariant_of-self-in-Ok c = (all_added c).table

pub returns-in-Ok-clause-added : goal.returns-in-Ok-clause-added
returns-in-Ok-clause-added c =
    (all_added c).cells ∙ ap (λ v. v ++ record { kind = c.args.kind; entity = c.args.entity; bits = c.args.bits } ∷ []) c.self.view_is

pub returns-in-Ok-clause-distinct : goal.returns-in-Ok-clause-distinct
returns-in-Ok-clause-distinct c = (all_added c).table.distinct
