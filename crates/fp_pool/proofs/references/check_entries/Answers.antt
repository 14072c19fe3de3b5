use Rattle.std.proofs.Common.{◌<◌, length, sym, ◌∙◌, subst, arith}
use Rattle.std.proofs.lemmas.Result.{err_from_is_err_and}
use Rattle.fp_model.specs.Reading.{Fails}
use Rattle.fp_model.specs.References.{entry_checked}
use Rattle.fp_model.specs.Spelling.{spelled_entry}
use Rattle.fp_model.proofs.Checking.{each-next, each-end, each-fails, each-size}
use Rattle.fp_pool.proofs.references.check_entries.Goals as goal

pub loop-entry-preserved : goal.loop-entry-preserved
loop-entry-preserved c =
    let within : c.loop-entry.entry-index < length c.args.entries.now = omega arith in (
      rw c.entry_size-next.ensures
          (sym (each-next spelled_entry (entry_checked c.args.entries.now) c.args.entries.now c.loop-entry.entry-index c.loop-entry.next c.entry-item.result within c.entry-item.is c.in_ok-check_entry.ensures)
          ∙ c.loop-entry.invariant.0),
      omega (arith, c.entry_size-next.ensures, c.loop-entry.invariant.1, each-size spelled_entry (entry_checked c.args.entries.now) c.args.entries.now c.loop-entry.entry-index c.loop-entry.next c.entry-item.result within c.entry-item.is),
    )

pub returns : goal.returns
returns c = sym c.loop-entry.invariant.0 ∙ each-end spelled_entry (entry_checked c.args.entries.now) c.args.entries.now c.loop-entry.entry-index c.loop-entry.next (omega arith)

pub returns-in_err-check_entry : goal.returns-in_err-check_entry
returns-in_err-check_entry c =
    let within : c.loop-entry.entry-index < length c.args.entries.now = omega arith in
    let p = err_from_is_err_and c.from_residual.result c.from_residual.ensures.1 in
    rw (p.1, p.2)
    (subst (λ read. Fails c.in_err-check_entry.field-0.0 read) c.loop-entry.invariant.0
    (each-fails spelled_entry (entry_checked c.args.entries.now) c.args.entries.now c.loop-entry.entry-index c.loop-entry.next c.entry-item.result within c.entry-item.is c.in_err-check_entry.field-0.0 c.in_err-check_entry.ensures))
