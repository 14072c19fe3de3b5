use Rattle.std.proofs.Common.{◌≡◌, ◌++◌, length, refl, arith}
use Rattle.fp_model.specs.ClassSet.{fields_of}
use Rattle.fp_system.proofs.JavaCellLemmas.{field_added, fields_upto}
use Rattle.fp_system.proofs.SurveyLemmas.{surveyed_same}
use Rattle.fp_system.proofs.survey.survey_fields.Goals as goal

pub loop-id-preserved : goal.loop-id-preserved
loop-id-preserved c = λ before h.
    let now = before ++ fields_upto c.args.kind c.args.bits c.loop-id.id in
    surveyed_same c.args.set.now c.args.show.now.items.texts _ _ _ _
    (field_added c.args.kind c.args.bits c.loop-id.id before now _ refl refl)
    (c.in_ok-survey_cell.ensures now (c.loop-id.invariant before h))

pub returns : goal.returns
returns c = λ before h.
    let end : c.loop-id.id ≡ length (fields_of c.args.set.now.classes) = omega arith in
    rw end at (c.loop-id.invariant before h)
