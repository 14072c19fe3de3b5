use Rattle.std.proofs.Common.{sym, ap, ◌∙◌, ◌++◌}
use Rattle.fp_model.specs.Descriptor.{text_of}
use Rattle.fp_base.specs.Escape.{escaped_name, escaped_text}
use Rattle.fp_cells.specs.Entities.{class_text, method_text}
use Rattle.fp_cells.proofs.EntityLemmas.{method_pieces, member_text, on_ok}
use Rattle.fp_cells.proofs.entity.append_method.Goals as goal

pub returns-clause-ok : goal.returns-clause-ok
returns-clause-ok c =
    let names = c.names-names.result.now in
    let own = c.class-class.result.now in
    let method = c.method-method.result.now in
    let start = c.args.to.now.items in
    let text = member_text (λ c. c.methods) (method_text c.args.set.now.names) c.args.set.now.classes c.class_of_method.result c.args.id own method c.class-class.ensures.class c.class_of_method.ensures.from c.class_of_method.ensures.to c.method-method.ensures in
    on_ok c.escape_text.result (λ last.
    method_pieces start (class_text names own) (escaped_name (text_of names method.name)) (escaped_text (text_of names method.descr))
    c.append_member.new.to.items c.escape_text.new.to.items
    c.in_ok-append_member.ensures.ok (last ∙ ap (λ v. c.append_member.new.to.items ++ escaped_text v) c.name_text.ensures)
    ∙ ap (λ v. start ++ method_text v own method) c.names-names.ensures.names
    ∙ ap (λ v. start ++ v) (sym text)) c.escape_text.ensures.ok
