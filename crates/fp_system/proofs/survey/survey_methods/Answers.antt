use Rattle.std.proofs.Common.{◌++◌, take, refl, arith}
use Rattle.fp_model.specs.ClassSet.{methods_of}
use Rattle.fp_system.specs.Java.{method_cells}
use Rattle.fp_system.specs.Kinds.{method_bits, method_has}
use Rattle.fp_system.proofs.MethodCellLemmas.{method_step, methods_done}
use Rattle.fp_system.proofs.SurveyLemmas.{surveyed_same}
use Rattle.fp_system.proofs.survey.survey_methods.Goals as goal

pub loop-id-preserved : goal.loop-id-preserved
loop-id-preserved c = λ before h.
    let methods = methods_of c.args.set.now.classes in
    let now = before ++ method_cells c.args.kind (method_bits c.args.kind) (method_has c.args.kind) 0 (take c.loop-id.id methods) in
    surveyed_same c.args.set.now c.args.show.now.items.texts _ _ _ _
    (method_step c.args.kind (method_bits c.args.kind) (method_has c.args.kind) methods c.loop-id.id c.method-method.result.now before now _ c.method-method.ensures refl refl)
    (c.in_ok-survey_method.ensures now (c.loop-id.invariant before h))

pub returns : goal.returns
returns c = λ before h.
    surveyed_same c.args.set.now c.args.show.now.items.texts _ _ _ _
    (methods_done c.args.kind (method_bits c.args.kind) (method_has c.args.kind) (methods_of c.args.set.now.classes) c.loop-id.id before _ (omega arith) refl)
    (c.loop-id.invariant before h)
