use Rattle.std.proofs.Common.{true, ◌++◌, ap, ◌∙◌}
use Rattle.fp_model.specs.ClassSet.{methods_of}
use Rattle.fp_cells.specs.declared.kind.KindId.TheVariants.{Declared, Inst, Assign, Immut, Timmut, Fresh, Leak, Purity}
use Rattle.fp_system.specs.Java.{class_cells, field_cells, is_concrete, is_no_interface, method_cells, reach_cells}
use Rattle.fp_system.specs.Kinds.{method_bits, method_has}
use Rattle.fp_system.proofs.JavaCellLemmas.{class_cells-all, joined}
use Rattle.fp_system.proofs.cells.make_cells.Goals as goal

pub returns : goal.returns
returns c =
    let classes = c.args.set.now.classes in
    let one = c.add_class_cells.new.cells in
    let two = c.add_class_cells-2.new.cells in
    let three = c.add_method_cells.new.cells in
    let four = c.add_field_cells.new.cells in
    let five = c.add_class_cells-3.new.cells in
    let six = c.add_class_cells-4.new.cells in
    let seven = c.add_method_cells-2.new.cells in
    let eight = c.add_method_cells-3.new.cells in
    let nine = c.add_method_cells-4.new.cells in
    let purity = method_cells Purity (method_bits Purity) (method_has Purity) 0 (methods_of classes) in
    let leak = method_cells Leak (method_bits Leak) (method_has Leak) 0 (methods_of classes) in
    let fresh = method_cells Fresh (method_bits Fresh) (method_has Fresh) 0 (methods_of classes) in
    let timmut = class_cells Timmut 2 (λ c. true) 0 classes in
    let immut = class_cells Immut 2 is_no_interface 0 classes in
    let assign = field_cells Assign 1 classes in
    let reach = reach_cells classes in
    let inst = class_cells Inst 1 is_concrete 0 classes in
    let declared = class_cells Declared 1 (λ c. true) 0 classes in
    let to_fresh = joined seven eight nine leak purity c.in_ok-add_method_cells-3.ensures.added c.in_ok-add_method_cells-4.ensures.added in
    let to_timmut = joined six seven nine fresh (leak ++ purity) c.in_ok-add_method_cells-2.ensures.added to_fresh in
    let timmut_added = c.in_ok-add_class_cells-4.ensures.added ∙ ap (λ v. five ++ v) (class_cells-all Timmut 2 0 classes) in
    let after_immut = fresh ++ (leak ++ purity) in
    let to_immut = joined five six nine timmut after_immut timmut_added to_timmut in
    let after_assign = timmut ++ after_immut in
    let to_assign = joined four five nine immut after_assign c.in_ok-add_class_cells-3.ensures.added to_immut in
    let to_reach = joined three four nine assign (immut ++ after_assign) c.in_ok-add_field_cells.ensures.added to_assign in
    let after_reach = assign ++ (immut ++ after_assign) in
    let to_inst = joined two three nine reach after_reach c.in_ok-add_method_cells.ensures.added to_reach in
    let to_declared = joined one two nine inst (reach ++ after_reach) c.in_ok-add_class_cells-2.ensures.added to_inst in
    let first = c.in_ok-add_class_cells.ensures.added ∙ ap (λ v. v ++ class_cells Declared 1 _ 0 classes) c.new-cells.ensures ∙ class_cells-all Declared 1 0 classes in
    to_declared ∙ ap (λ v. v ++ (inst ++ (reach ++ after_reach))) first
