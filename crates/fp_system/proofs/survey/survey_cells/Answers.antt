use Rattle.std.proofs.Common.{true, ◌++◌, [], ap, ◌∙◌}
use Rattle.fp_model.specs.ClassSet.{methods_of}
use Rattle.fp_cells.specs.declared.kind.KindId.TheVariants.{Declared, Inst, Assign, Immut, Timmut, Fresh, Leak, Purity}
use Rattle.fp_system.specs.Java.{class_cells, field_cells, is_concrete, is_no_interface, lacks, method_cells, reach_cells}
use Rattle.fp_system.specs.Kinds.{method_bits, method_has}
use Rattle.fp_system.proofs.JavaCellLemmas.{class_cells-all}
use Rattle.fp_system.proofs.SurveyLemmas.{nine_joined, surveyed_none, surveyed_same}
use Rattle.fp_system.proofs.survey.survey_cells.Goals as goal

pub returns : goal.returns
returns c =
    let set = c.args.set.now in
    let items = c.args.show.now.items.texts in
    let classes = set.classes in
    let purity = method_cells Purity (method_bits Purity) (method_has Purity) 0 (methods_of classes) in
    let leak = method_cells Leak (method_bits Leak) (method_has Leak) 0 (methods_of classes) in
    let fresh = method_cells Fresh (method_bits Fresh) (method_has Fresh) 0 (methods_of classes) in
    let timmut = class_cells Timmut 2 (lacks 0) 0 classes in
    let immut = class_cells Immut 2 is_no_interface 0 classes in
    let assign = field_cells Assign 1 classes in
    let reach = reach_cells classes in
    let inst = class_cells Inst 1 is_concrete 0 classes in
    let declared = class_cells Declared 1 (lacks 0) 0 classes in
    let none = surveyed_none set items _ c.new.ensures in
    let one = c.in_ok-survey_classes.ensures [] none in
    let two = c.in_ok-survey_classes-2.ensures _ one in
    let three = c.in_ok-survey_methods.ensures _ two in
    let four = c.in_ok-survey_fields.ensures _ three in
    let five = c.in_ok-survey_classes-3.ensures _ four in
    let six = c.in_ok-survey_classes-4.ensures _ five in
    let seven = c.in_ok-survey_methods-2.ensures _ six in
    let eight = c.in_ok-survey_methods-3.ensures _ seven in
    let nine = c.in_ok-survey_methods-4.ensures _ eight in
    surveyed_same set items _ _ _ _
    (nine_joined declared inst reach assign immut timmut fresh leak purity
    ∙ ap (λ v. v ++ (inst ++ (reach ++ (assign ++ (immut ++ (timmut ++ (fresh ++ (leak ++ purity)))))))) (class_cells-all Declared 1 0 classes)
    ∙ ap (λ v. class_cells Declared 1 (λ c. true) 0 classes ++ (inst ++ (reach ++ (assign ++ (immut ++ (v ++ (fresh ++ (leak ++ purity)))))))) (class_cells-all Timmut 2 0 classes))
    nine
