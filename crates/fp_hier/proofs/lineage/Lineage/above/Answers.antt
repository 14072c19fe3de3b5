use Rattle.std.proofs.Common.{length, ap₂, sym, ◌∙◌}
use Rattle.fp_hier.specs.Lineages.{lineage_from}
use Rattle.fp_hier.proofs.Lineages.{among-superclasses}
use Rattle.fp_hier.proofs.lineage.Lineage.above.Goals as goal

pub returns-clause-rest : goal.returns-clause-rest
returns-clause-rest c =
    let classes = c.args.set.now.classes in
    ap₂ (lineage_from classes) c.counts-classes.ensures.classes c.superclass.ensures.superclass
    ∙ sym (among-superclasses classes (length classes) c.args.class.now.parent)
