use Rattle.std.proofs.Common.{not, filter, ap, ◌∙◌, rules}
use Rattle.std.proofs.lemmas.Fn.{filter_same}
use Rattle.fp_facts.specs.Hierarchy.{has_number}
use Rattle.fp_hier.proofs.bits.more_bits.Goals as goal

pub returns : goal.returns
returns c =
    let up = c.requires.without_rising in
    filter_same _ (λ bit. not (has_number c.args.without.now bit)) _ (λ x b f' k. search rules) _ _ c.retain.ensures.filtered
    ∙ ap (filter (λ bit. not (has_number c.args.without.now bit))) c.in_ok-bits.ensures
