use Rattle.std.proofs.Common.{◌<◌, length, refl, arith}
use Rattle.std.proofs.lemmas.Option.{slice_get_read}
use Rattle.fp_class.proofs.Numberings.{one_numbered, all_numbered}
use Rattle.fp_class.proofs.numbers.number_texts.Goals as goal

pub loop-entry-preserved : goal.loop-entry-preserved
loop-entry-preserved c =
    let within : c.loop-entry.entry-index < length c.args.entries.now = omega arith in
    let at = slice_get_read c.args.entries.now (length c.args.entries.now) c.loop-entry.entry-index c.entry-item.result refl within c.entry-item.is in
    rw c.in_ok-push.ensures.items
    (one_numbered c.loop-entry.names c.entry_number.new.names c.args.entries.now c.loop-entry.numbers.items c.loop-entry.entry-index c.in_ok-number.number c.entry-item.result c.loop-entry.invariant at c.in_ok-number.ensures.number c.in_ok-number.ensures.names c.in_ok-number.ensures.few)

pub returns : goal.returns
returns c = all_numbered c.loop-entry.names c.args.entries.now c.loop-entry.numbers.items c.loop-entry.entry-index c.loop-entry.invariant (omega arith)
