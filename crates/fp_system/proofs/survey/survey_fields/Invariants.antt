use Rattle.std.proofs.Common.{List, ◌++◌}
use Rattle.fp_cells.specs.Cells.{Cell}
use Rattle.fp_system.specs.Surveys.{HasSurveyed}
use Rattle.fp_system.proofs.JavaCellLemmas.{fields_upto}
use Rattle.fp_system.proofs.survey.survey_fields.Given as goal

abbrev pub invariant-loop-id : goal.invariant-loop-id
invariant-loop-id l =
    (before : List Cell) → HasSurveyed l.set l.show.items.texts l.fn.survey.places l.fn.survey.found before
    → HasSurveyed l.set l.show.items.texts l.survey.places l.survey.found (before ++ fields_upto l.kind l.bits l.id)
