use Rattle.fp_cells.specs.declared.kind.Entity.TheVariants.{Field as OfField}
use Rattle.fp_cells.specs.Entities.{entity_text}
use Rattle.fp_system.proofs.LengthLemmas.{field_longer, text_longer}
use Rattle.fp_system.proofs.words.lengths.is_longer_field.Goals as goal

pub returns-then-has_longer : goal.returns-then-has_longer
returns-then-has_longer c = λ h.
    let set = c.args.set.now in
    let long = field_longer set c.class_of_field.result c.args.id c.class-class.result.now c.field-field.result.now c.class-class.ensures.class c.class_of_field.ensures.from c.class_of_field.ensures.to c.field-field.ensures in
    text_longer c.names-names.result.now set.names c.class-class.result.now.name c.args.most (entity_text set (OfField c.args.id)) c.names-names.ensures.names long.of_class (c.has_longer.ensures c.if-has_longer.true)

pub returns-then-has_longer-2 : goal.returns-then-has_longer-2
returns-then-has_longer-2 c = λ h.
    let set = c.args.set.now in
    let long = field_longer set c.class_of_field.result c.args.id c.class-class.result.now c.field-field.result.now c.class-class.ensures.class c.class_of_field.ensures.from c.class_of_field.ensures.to c.field-field.ensures in
    text_longer c.names-names.result.now set.names c.field-field.result.now.name c.args.most (entity_text set (OfField c.args.id)) c.names-names.ensures.names long.of_name (c.has_longer-2.ensures c.if-has_longer-2.true)

pub returns : goal.returns
returns c = λ h.
    let set = c.args.set.now in
    let long = field_longer set c.class_of_field.result c.args.id c.class-class.result.now c.field-field.result.now c.class-class.ensures.class c.class_of_field.ensures.from c.class_of_field.ensures.to c.field-field.ensures in
    text_longer c.names-names.result.now set.names c.field-field.result.now.descr c.args.most (entity_text set (OfField c.args.id)) c.names-names.ensures.names long.of_descr (c.has_longer-3.ensures h)
