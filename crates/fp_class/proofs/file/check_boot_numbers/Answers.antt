use Rattle.std.proofs.Common.{◌<◌, List, [], length, sym, ◌∙◌, subst, arith}
use Rattle.std.proofs.lemmas.Result.{err_from_is_err_and}
use Rattle.fp_model.specs.declared.raw.attribute.BootRow.{BootRow}
use Rattle.fp_model.specs.Reading.{Fails}
use Rattle.fp_model.specs.Spelling.{spelled_entry}
use Rattle.fp_model.proofs.Checking.{each-next, each-end, each-fails, each-size}
use Rattle.fp_class.specs.ClassFile.{boot_number_checked}
use Rattle.fp_class.proofs.file.check_boot_numbers.Goals as goal

none : List BootRow
none = []

pub check_boot_number-requires : goal.check_boot_number-requires
check_boot_number-requires c =
    let within : c.loop-entry.entry-index < length c.args.entries.now = omega arith in
    omega (arith, c.requires, c.loop-entry.invariant.at, each-size spelled_entry (boot_number_checked none) c.args.entries.now c.loop-entry.entry-index c.loop-entry.next c.entry-item.result within c.entry-item.is)

pub loop-entry-preserved : goal.loop-entry-preserved
loop-entry-preserved c =
    let within : c.loop-entry.entry-index < length c.args.entries.now = omega arith in
    rw c.entry_size-next.ensures (record {
      rest = λ rows is. sym (each-next spelled_entry (boot_number_checked rows) c.args.entries.now c.loop-entry.entry-index c.loop-entry.next c.entry-item.result within c.entry-item.is (c.in_ok-check_boot_number.ensures rows is)) ∙ c.loop-entry.invariant.rest rows is;
      at = omega (arith, c.loop-entry.invariant.at, each-size spelled_entry (boot_number_checked none) c.args.entries.now c.loop-entry.entry-index c.loop-entry.next c.entry-item.result within c.entry-item.is);
    })

pub returns : goal.returns
returns c = λ rows is. sym (c.loop-entry.invariant.rest rows is) ∙ each-end spelled_entry (boot_number_checked rows) c.args.entries.now c.loop-entry.entry-index c.loop-entry.next (omega arith)

pub returns-in_err-check_boot_number : goal.returns-in_err-check_boot_number
returns-in_err-check_boot_number c = λ rows is.
    let within : c.loop-entry.entry-index < length c.args.entries.now = omega arith in
    let p = err_from_is_err_and c.from_residual.result c.from_residual.ensures.1 in
    rw (p.1, p.2)
    (subst (λ read. Fails c.in_err-check_boot_number.field-0.0 read) (c.loop-entry.invariant.rest rows is)
    (each-fails spelled_entry (boot_number_checked rows) c.args.entries.now c.loop-entry.entry-index c.loop-entry.next c.entry-item.result within c.entry-item.is c.in_err-check_boot_number.field-0.0 (c.in_err-check_boot_number.ensures rows is)))
