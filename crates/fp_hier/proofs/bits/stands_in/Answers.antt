use Rattle.std.proofs.Common.{◌∙◌}
use Rattle.std.proofs.lemmas.List.Sorted.{searched}
use Rattle.fp_hier.proofs.SearchedPlaces.{not_fall, has-found}
use Rattle.fp_hier.proofs.bits.stands_in.Goals as goal

pub returns : goal.returns
returns c = λ up.
    let numbers = c.args.numbers.now in
    c.is_ok.ensures.value ∙ has-found numbers c.args.number c.binary_search.result (searched numbers c.args.number c.binary_search.result c.binary_search.ensures.position (not_fall numbers up))
