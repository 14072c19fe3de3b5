-- The superclass of one class more.
use Rattle.std.proofs.Common.{◌∙◌, arith}
use Rattle.fp_model.proofs.Indexing.{superclasses_more}
use Rattle.fp_model.proofs.class_set.cycles.superclasses.Goals as goal

pub loop-class-preserved : goal.loop-class-preserved
loop-class-preserved c =
    c.in_ok-push.ensures.items
    ∙ superclasses_more c.args.classes.now c.args.index.now c.loop-class.supers.items c.loop-class.class-index c.class-item.result c.superclass.result (omega arith) c.class-item.is c.requires.parents c.requires.index c.loop-class.invariant c.superclass.ensures
