-- Which name was found, if any.
use Rattle.std.proofs.Common.{None, Some, length, ap, ◌∙◌}
use Rattle.std.proofs.lemmas.List.FromFn.{length-map-range_with_len}
use Rattle.fp_model.specs.ClassSet.{is_on_cycle}
use Rattle.fp_model.proofs.Refusals.{refused_duplicate, refused_by_cycle, parents_known, index_is}
use Rattle.fp_model.proofs.class_set.check_sound.Goals as goal

pub returns-in-Some-clause-refused : goal.returns-in-Some-clause-refused
returns-in-Some-clause-refused c =
    refused_duplicate c.args.names.now c.args.classes.now c.in_ok-namesakes.namesakes.items c.as_slice.result.now c.in_ok-name.field-0 c.in-Some.name c.in_ok-namesakes.ensures c.as_slice.ensures.value c.in_ok-name.ensures c.in-Some.is

pub mark_cycles-requires-clause-parents : goal.mark_cycles-requires-clause-parents
mark_cycles-requires-clause-parents c = parents_known c.args.names.now c.args.classes.now c.args.by_name.now c.requires.over c.requires.index

pub mark_cycles-requires-clause-index : goal.mark_cycles-requires-clause-index
mark_cycles-requires-clause-index c = index_is c.args.names.now c.args.classes.now c.args.by_name.now c.requires.index

pub first_marked_name-requires-2-clause-marks : goal.first_marked_name-requires-2-clause-marks
first_marked_name-requires-2-clause-marks c =
    ap length (c.as_slice-2.ensures.value ∙ c.in_ok-cycles.ensures) ∙ length-map-range_with_len (is_on_cycle c.args.classes.now) 0 (length c.args.classes.now)

pub returns-in-Some-2-clause-refused : goal.returns-in-Some-2-clause-refused
returns-in-Some-2-clause-refused c =
    refused_by_cycle c.args.names.now c.args.classes.now c.in_ok-namesakes.namesakes.items c.as_slice.result.now c.in_ok-cycles.cycles.items c.as_slice-2.result.now c.in_ok-name.field-0 c.in_ok-name-2.field-0 (Some c.in-Some-2.name)
    c.in_ok-namesakes.ensures c.as_slice.ensures.value c.in_ok-name.ensures c.in_default.is c.in_ok-cycles.ensures c.as_slice-2.ensures.value c.in_ok-name-2.ensures c.in-Some-2.is

pub returns-clause-sound : goal.returns-clause-sound
returns-clause-sound c =
    refused_by_cycle c.args.names.now c.args.classes.now c.in_ok-namesakes.namesakes.items c.as_slice.result.now c.in_ok-cycles.cycles.items c.as_slice-2.result.now c.in_ok-name.field-0 c.in_ok-name-2.field-0 None
    c.in_ok-namesakes.ensures c.as_slice.ensures.value c.in_ok-name.ensures c.in_default.is c.in_ok-cycles.ensures c.as_slice-2.ensures.value c.in_ok-name-2.ensures c.in_default-2.is
