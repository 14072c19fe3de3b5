use Rattle.std.proofs.Common.{sym, ◌∙◌, subst, arith}
use Rattle.std.proofs.lemmas.Result.{err_from_is_err_and}
use Rattle.fp_model.specs.Reading.{Fails}
use Rattle.fp_model.specs.Spelling.{spelled_boot}
use Rattle.fp_ops.proofs.Walking.{each_next, each_end}
use Rattle.fp_attr.specs.Attributes.{boot_checked}
use Rattle.fp_attr.proofs.Checking.{each_fails, each_size}
use Rattle.fp_attr.proofs.boots.check_rows.Goals as goal

pub loop-row-preserved : goal.loop-row-preserved
loop-row-preserved c = record {
  rest = rw c.size-next.ensures (sym (each_next spelled_boot (boot_checked c.args.entries.now) c.loop-row.next c.args.rows.now c.loop-row.row-index c.row-item.result c.loop-row-test.true c.row-item.is c.in_ok-check_row.ensures) ∙ c.loop-row.invariant.rest);
  at = omega (arith, c.size-next.ensures, c.loop-row.invariant.at, each_size spelled_boot c.args.rows.now c.loop-row.row-index c.row-item.result c.loop-row-test.true c.row-item.is);
}

pub returns : goal.returns
returns c =
    sym c.loop-row.invariant.rest
    ∙ each_end spelled_boot (boot_checked c.args.entries.now) c.loop-row.next c.args.rows.now c.loop-row.row-index c.loop-row-test.false

pub returns-in_err-check_row : goal.returns-in_err-check_row
returns-in_err-check_row c =
    let p = err_from_is_err_and c.from_residual.result c.from_residual.ensures.1 in
    rw (p.1, p.2)
    (subst (λ read. Fails c.in_err-check_row.field-0.0 read) c.loop-row.invariant.rest
    (each_fails spelled_boot (boot_checked c.args.entries.now) c.loop-row.next c.args.rows.now c.loop-row.row-index c.row-item.result c.in_err-check_row.field-0.0 c.loop-row-test.true c.row-item.is c.in_err-check_row.ensures))
