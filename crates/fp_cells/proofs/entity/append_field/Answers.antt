use Rattle.std.proofs.Common.{sym, ap, ◌∙◌, ◌++◌}
use Rattle.fp_model.specs.Descriptor.{text_of}
use Rattle.fp_base.specs.Escape.{escaped_name, escaped_text}
use Rattle.fp_cells.specs.Entities.{class_text, field_text}
use Rattle.fp_cells.proofs.EntityLemmas.{field_pieces, member_text, on_ok}
use Rattle.fp_cells.proofs.entity.append_field.Goals as goal

pub returns-clause-ok : goal.returns-clause-ok
returns-clause-ok c =
    let names = c.names-names.result.now in
    let own = c.class-class.result.now in
    let field = c.field-field.result.now in
    let start = c.args.to.now.items in
    let text = member_text (λ c. c.fields) (field_text c.args.set.now.names) c.args.set.now.classes c.class_of_field.result c.args.id own field c.class-class.ensures.class c.class_of_field.ensures.from c.class_of_field.ensures.to c.field-field.ensures in
    on_ok c.escape_text.result (λ last.
    field_pieces start (class_text names own) (escaped_name (text_of names field.name)) (escaped_text (text_of names field.descr))
    c.append_member.new.to.items c.push.new.self.items c.escape_text.new.to.items
    c.in_ok-append_member.ensures.ok c.in_ok-push.ensures.items (last ∙ ap (λ v. c.push.new.self.items ++ escaped_text v) c.name_text.ensures)
    ∙ ap (λ v. start ++ field_text v own field) c.names-names.ensures.names
    ∙ ap (λ v. start ++ v) (sym text)) c.escape_text.ensures.ok
