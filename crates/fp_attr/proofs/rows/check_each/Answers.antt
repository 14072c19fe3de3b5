use Rattle.std.proofs.Common.{get_or, sym, ◌∙◌, subst, arith}
use Rattle.std.proofs.lemmas.List.{get_or_default}
use Rattle.std.proofs.lemmas.Result.{err_from_is_err_and}
use Rattle.fp_model.specs.declared.raw.attribute.CatchRow.{CatchRow}
use Rattle.fp_model.specs.Reading.{Fails}
use Rattle.fp_model.specs.Spelling.{spelled_row}
use Rattle.fp_ops.proofs.Walking.{each_next, each_end}
use Rattle.fp_attr.specs.Codes.{row_checked}
use Rattle.fp_attr.proofs.Checking.{each_fails, each_size}
use Rattle.fp_attr.proofs.rows.check_each.Goals as goal

pub check_row-requires : goal.check_row-requires
check_row-requires c =
    let row : CatchRow = get_or c.args.rows.now c.loop-row.row-index (record { start = 0; end = 0; handler = 0; class = 0 }) in
    let is = get_or_default c.args.rows.now c.loop-row.row-index (record { start = 0; end = 0; handler = 0; class = 0 }) row c.loop-row-test.true in
    omega (arith, c.requires, c.loop-row.invariant.at, each_size spelled_row c.args.rows.now c.loop-row.row-index row c.loop-row-test.true is)

pub loop-row-preserved : goal.loop-row-preserved
loop-row-preserved c =
    let row : CatchRow = get_or c.args.rows.now c.loop-row.row-index (record { start = 0; end = 0; handler = 0; class = 0 }) in
    let is = get_or_default c.args.rows.now c.loop-row.row-index (record { start = 0; end = 0; handler = 0; class = 0 }) row c.loop-row-test.true in
    record {
      rest = λ code same. sym (each_next spelled_row (row_checked c.args.entries.now code c.args.len) c.loop-row.next c.args.rows.now c.loop-row.row-index row c.loop-row-test.true is (c.in_ok-check_row.ensures code same)) ∙ c.loop-row.invariant.rest code same;
      at = omega (arith, c.loop-row.invariant.at, each_size spelled_row c.args.rows.now c.loop-row.row-index row c.loop-row-test.true is);
    }

pub returns : goal.returns
returns c = λ code same.
    sym (c.loop-row.invariant.rest code same)
    ∙ each_end spelled_row (row_checked c.args.entries.now code c.args.len) c.loop-row.next c.args.rows.now c.loop-row.row-index c.loop-row-test.false

pub returns-in_err-check_row : goal.returns-in_err-check_row
returns-in_err-check_row c = λ code same.
    let row : CatchRow = get_or c.args.rows.now c.loop-row.row-index (record { start = 0; end = 0; handler = 0; class = 0 }) in
    let is = get_or_default c.args.rows.now c.loop-row.row-index (record { start = 0; end = 0; handler = 0; class = 0 }) row c.loop-row-test.true in
    let p = err_from_is_err_and c.from_residual.result c.from_residual.ensures.1 in
    rw (p.1, p.2)
    (subst (λ read. Fails c.in_err-check_row.field-0.0 read) (c.loop-row.invariant.rest code same)
    (each_fails spelled_row (row_checked c.args.entries.now code c.args.len) c.loop-row.next c.args.rows.now c.loop-row.row-index row c.in_err-check_row.field-0.0 c.loop-row-test.true is (c.in_err-check_row.ensures code same)))
