use Rattle.std.proofs.Common.{◌++◌, take, ap, sym, ◌∙◌, arith}
use Rattle.std.specs.Option.{option_to_list}
use Rattle.fp_hier.proofs.SearchedPlaces.{places-more, places_in}
use Rattle.fp_hier.proofs.bits.places.Goals as goal

pub loop-method-preserved : goal.loop-method-preserved
loop-method-preserved c =
    let targets = c.args.targets.now in
    let methods = c.args.methods.now in
    let i = c.loop-method.method-index in
    c.in_ok-push_some.ensures ∙ ap (λ l. l ++ option_to_list c.place_of.result) c.loop-method.invariant
    ∙ ap (λ o. places_in targets (take i methods) ++ option_to_list o) c.place_of.ensures
    ∙ sym (places-more targets methods i (omega arith))
