use Rattle.std.proofs.Common.{◌<◌, length, sym, subst}
use Rattle.fp_cells.specs.declared.kind.Entity.TheVariants.{Class as OfClass}
use Rattle.fp_cells.specs.Entities.{entity_text}
use Rattle.fp_system.proofs.LengthLemmas.{class_longer, text_longer}
use Rattle.fp_system.proofs.words.lengths.is_longer.Goals as goal

pub returns-in-Class : goal.returns-in-Class
returns-in-Class c = λ h.
    let set = c.args.set.now in
    let id = c.in-Class.id in
    let own = text_longer c.names.result.now set.names c.class.result.now.name c.args.most (entity_text set (OfClass id)) c.names.ensures.names (class_longer set id c.class.result.now c.class.ensures.class) (c.has_longer.ensures h) in
    subst (λ e. c.args.most < length (entity_text set e)) (sym c.in-Class.is) own
