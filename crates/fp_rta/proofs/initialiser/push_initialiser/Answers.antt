use Rattle.std.proofs.Common.{◌≡◌, ◌++◌, ◌∙◌, List, ℕ, ap, subst}
use Rattle.std.specs.Option.{option_to_list}
use Rattle.std.specs.Result.{OnOk}
use Rattle.fp_rta.proofs.PlaceLists.{one-place, table-told}
use Rattle.fp_rta.proofs.initialiser.push_initialiser.Goals as goal

pub returns : goal.returns
returns c =
    let method = c.listed-method.ensures ∙ table-told c.args.set.now c.args.table.now c.args.class c.requires in
    let place = ap option_to_list c.place_of.ensures ∙ one-place c.args.set.now c.args.cells.now c.args.class c.listed-method.result method in
    subst (λ (l : List ℕ). OnOk c.push_place.result (c.push_place.new.places.items ≡ c.args.places.now.items ++ l)) place c.push_place.ensures
