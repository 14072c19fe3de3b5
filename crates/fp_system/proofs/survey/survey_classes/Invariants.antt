use Rattle.std.proofs.Common.{List, ◌++◌, take}
use Rattle.fp_cells.specs.Cells.{Cell}
use Rattle.fp_system.specs.Java.{class_cells, lacks}
use Rattle.fp_system.specs.Surveys.{HasSurveyed}
use Rattle.fp_system.proofs.survey.survey_classes.Given as goal

abbrev pub invariant-loop-id : goal.invariant-loop-id
invariant-loop-id l =
    (before : List Cell) → HasSurveyed l.set l.show.items.texts l.fn.survey.places l.fn.survey.found before
    → HasSurveyed l.set l.show.items.texts l.survey.places l.survey.found (before ++ class_cells l.property.kind l.property.bits (lacks l.property.without) 0 (take l.id l.set.classes))
