use Rattle.std.proofs.Common.{List, ◌++◌, take}
use Rattle.fp_model.specs.ClassSet.{methods_of}
use Rattle.fp_cells.specs.Cells.{Cell}
use Rattle.fp_system.specs.Java.{method_cells}
use Rattle.fp_system.specs.Kinds.{method_bits, method_has}
use Rattle.fp_system.specs.Surveys.{HasSurveyed}
use Rattle.fp_system.proofs.survey.survey_methods.Given as goal

abbrev pub invariant-loop-id : goal.invariant-loop-id
invariant-loop-id l =
    (before : List Cell) → HasSurveyed l.set l.show.items.texts l.fn.survey.places l.fn.survey.found before
    → HasSurveyed l.set l.show.items.texts l.survey.places l.survey.found (before ++ method_cells l.kind (method_bits l.kind) (method_has l.kind) 0 (take l.id (methods_of l.set.classes)))
