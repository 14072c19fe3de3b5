use Rattle.std.proofs.Common.{rules, ◌≡◌, true, ◌++◌, ◌∙◌, ap}
use Rattle.fp_base.specs.Names.{has_name}
use Rattle.fp_cells.specs.declared.kind.Entity.TheVariants.{Method as OfMethod}
use Rattle.fp_cells.specs.Entities.{entity_text}
use Rattle.fp_system.specs.Java.{has_code}
use Rattle.fp_system.proofs.RootLemmas.{root_noted}
use Rattle.fp_system.proofs.words.roots.note_method.Goals as goal

pub returns : goal.returns
returns c = λ root there.
    let entity = entity_text c.args.set.now (OfMethod c.args.id) in
    let text = c.as_slice-2.ensures.value ∙ c.in_ok-append_entity.ensures.ok ∙ ap (λ v. v ++ entity) c.clear.ensures.items in
    let code : has_code c.args.method.now ≡ true = search rules in
    ap (λ v. has_name v root) c.in_ok-add_text.ensures ∙ root_noted c.args.found.now c.as_slice-2.result.now entity root (has_code c.args.method.now) text code
