-- One class more, from the last to the first.
use Rattle.std.proofs.Common.{◌-◌, length, get_or, Some, ap, ap₂, ◌∙◌, arith}
use Rattle.fp_base.specs.Escape.{escaped_name}
use Rattle.fp_model.specs.ClassSet.{earlier}
use Rattle.fp_model.proofs.Naming.{least_none, least_marked, least_unmarked, text_found, text_known}
use Rattle.fp_model.proofs.class_set.blame.first_marked_name.Goals as goal

pub loop-id-init : goal.loop-id-init
loop-id-init c = least_none c.args.names.now c.args.classes.now c.args.marks.now (length c.args.classes.now) (omega arith)

pub unwrap-name-requires : goal.unwrap-name-requires
unwrap-name-requires c =
    let class = get_or c.args.classes.now (c.loop-id.id - 1) c.index-classes-id.result in
    text_known c.args.names.now class.name c.text.result c.text.ensures.text (c.requires.over (c.loop-id.id - 1) c.index-classes-id.result (omega arith)).name

pub loop-id-preserved-then-marks-id : goal.loop-id-preserved-then-marks-id
loop-id-preserved-then-marks-id c =
    let class = get_or c.args.classes.now (c.loop-id.id - 1) c.index-classes-id.result in
    let name = c.in_ok-escaped_name_text.ensures ∙ ap escaped_name (text_found c.args.names.now class.name c.text.result c.unwrap-name.result c.text.ensures.text c.unwrap-name.ensures) in
    ap (λ text. Some text) (c.earlier_of.ensures ∙ ap₂ earlier name c.loop-id.invariant)
    ∙ least_marked c.args.names.now c.args.classes.now c.args.marks.now (c.loop-id.id - 1) c.loop-id.id c.index-classes-id.result (omega arith) (omega arith) c.requires.marks c.if-marks-id.true

pub loop-id-preserved : goal.loop-id-preserved
loop-id-preserved c =
    c.loop-id.invariant ∙ least_unmarked c.args.names.now c.args.classes.now c.args.marks.now (c.loop-id.id - 1) c.loop-id.id (omega arith) (omega arith) c.requires.marks c.if-marks-id.false
