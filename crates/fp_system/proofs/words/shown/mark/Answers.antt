use Rattle.std.proofs.Common.{◌++◌, ◌∷◌, ◌||◌, ap, ◌∙◌}
use Rattle.std.specs.Str.{bytes_eq}
use Rattle.fp_base.specs.Names.{has_name}
use Rattle.fp_base.proofs.NameLemmas.{has_name-with_name}
use Rattle.fp_cells.specs.Entities.{entity_text}
use Rattle.fp_system.proofs.ShowLemmas.{text_pieces}
use Rattle.fp_system.proofs.words.shown.mark.Goals as goal

pub returns-clause-found : goal.returns-clause-found
returns-clause-found c = λ item there.
    let found = c.args.found.now in
    let entity = entity_text c.args.set.now c.args.entity in
    let text = c.as_slice-2.ensures.value
    ∙ text_pieces c.kind_text-name.result.now entity c.clear.new.self.items c.extend_from_slice.new.self.items c.push.new.self.items c.append_entity.new.to.items
    c.clear.ensures.items c.in_ok-extend_from_slice.ensures.items c.in_ok-push.ensures.items c.in_ok-append_entity.ensures.ok
    ∙ ap (λ v. v ++ (61 ∷ entity)) c.kind_text-name.ensures in
    ap (λ v. has_name v item) c.in_ok-add_text.ensures ∙ has_name-with_name found c.as_slice-2.result.now item
    ∙ ap (λ v. has_name found item || bytes_eq item v) text
