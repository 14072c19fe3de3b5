use Rattle.std.proofs.Common.{◌++◌, take, refl, arith}
use Rattle.fp_system.specs.Java.{class_cells, lacks}
use Rattle.fp_system.proofs.JavaCellLemmas.{class_step, classes_done}
use Rattle.fp_system.proofs.SurveyLemmas.{surveyed_same}
use Rattle.fp_system.proofs.survey.survey_classes.Goals as goal

pub loop-id-preserved : goal.loop-id-preserved
loop-id-preserved c = λ before h.
    let classes = c.args.set.now.classes in
    let now = before ++ class_cells c.args.property.kind c.args.property.bits (lacks c.args.property.without) 0 (take c.loop-id.id classes) in
    surveyed_same c.args.set.now c.args.show.now.items.texts _ _ _ _
    (class_step c.args.property.kind c.args.property.bits (lacks c.args.property.without) classes c.loop-id.id c.class-class.result.now c.class-class.ensures.class before now refl _ refl)
    (c.in_ok-survey_class.ensures now (c.loop-id.invariant before h))

pub returns : goal.returns
returns c = λ before h.
    surveyed_same c.args.set.now c.args.show.now.items.texts _ _ _ _
    (classes_done c.args.property.kind c.args.property.bits (lacks c.args.property.without) c.args.set.now.classes c.loop-id.id before _ (omega arith) refl)
    (c.loop-id.invariant before h)
