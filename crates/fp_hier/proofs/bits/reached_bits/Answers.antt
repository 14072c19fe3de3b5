use Rattle.std.proofs.Common.{◌≡◌, ◌++◌, ap, ◌∙◌}
use Rattle.std.specs.Option.{option_to_list}
use Rattle.fp_facts.specs.Hierarchy.{has_number}
use Rattle.fp_hier.specs.Bits.{as_reached}
use Rattle.fp_hier.proofs.SearchedPlaces.{places_in}
use Rattle.fp_hier.proofs.TargetBits.{bits-are, outside_bit}
use Rattle.fp_hier.proofs.bits.reached_bits.Goals as goal

pub returns : goal.returns
returns c =
    let targets = c.args.targets.now in
    let reached = c.args.reached.now in
    let all : c.push_some.new.numbers.items ≡ places_in targets reached.methods ++ option_to_list (outside_bit targets reached.outside) =
    c.in_ok-push_some.ensures ∙ ap (λ l. l ++ option_to_list c.then_some.result) (c.in_ok-bits.ensures ∙ ap (places_in targets) c.as_slice.ensures)
    ∙ ap (λ o. places_in targets reached.methods ++ option_to_list o) c.then_some.ensures in
    bits-are targets c.ascending.result.items (as_reached reached) c.requires.rising c.ascending.ensures.rising
    (λ n. c.ascending.ensures.members n ∙ ap (λ l. has_number l n) all)
