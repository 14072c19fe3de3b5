use Rattle.std.proofs.Common.{◌<◌, ◌∷◌, [], length, get_or, take, ◌+◌, ◌++◌, sym, ◌∙◌, arith}
use Rattle.std.proofs.lemmas.List.{get_or_default}
use Rattle.std.proofs.lemmas.Result.{err_from_is_err_and}
use Rattle.std.specs.List.{flat_map}
use Rattle.fp_model.specs.declared.raw.attribute.CatchRow.{CatchRow}
use Rattle.fp_model.proofs.Taking.{kept_by, taken_late}
use Rattle.fp_class.specs.MethodCode.{row_texts, IsGuardOf}
use Rattle.fp_class.proofs.NamedCode.{IsGuardOf-kept}
use Rattle.fp_class.proofs.NamedParts.{AllZip-to, AllZip-more}
use Rattle.fp_ops.proofs.Tables.{front_of, names_more, pushed}
use Rattle.fp_ops.proofs.TakenTexts.{all_taken, one_stops}
use Rattle.fp_class.proofs.code.guards.Goals as goal

abbrev no_row : CatchRow
no_row = record { start = 0; end = 0; handler = 0; class = 0 }

pub returns-in_err-one-clause-names : goal.returns-in_err-one-clause-names
returns-in_err-one-clause-names c =
    let p = err_from_is_err_and c.from_residual.result c.from_residual.ensures.1 in
    let within : c.loop-row.row-index < length c.args.rows.now = omega arith in
    let row = get_or c.args.rows.now c.loop-row.row-index no_row in
    rw (p.1, p.2)
    (one_stops (row_texts c.args.entries.now) c.args.rows.now c.loop-row.row-index row c.in_err-one.field-0.0 c.args.names.now c.loop-row.names c.guard.new.names
    within (get_or_default c.args.rows.now c.loop-row.row-index no_row row within) c.loop-row.invariant.names c.in_err-one.ensures.names)

pub returns-then-is_err-clause-names : goal.returns-then-is_err-clause-names
returns-then-is_err-clause-names c =
    let within : c.loop-row.row-index < length c.args.rows.now = omega arith in
    let row = get_or c.args.rows.now c.loop-row.row-index no_row in
    taken_late c.args.names.now c.guard.new.names (flat_map (row_texts c.args.entries.now) (take (c.loop-row.row-index + 1) c.args.rows.now)) _
    (names_more (row_texts c.args.entries.now) c.args.rows.now c.loop-row.row-index row within (get_or_default c.args.rows.now c.loop-row.row-index no_row row within)
    c.args.names.now c.loop-row.names c.guard.new.names c.loop-row.invariant.names c.in_ok-one.ensures.names.names)

pub loop-row-preserved : goal.loop-row-preserved
loop-row-preserved c =
    let within : c.loop-row.row-index < length c.args.rows.now = omega arith in
    let row = get_or c.args.rows.now c.loop-row.row-index no_row in
    let is = get_or_default c.args.rows.now c.loop-row.row-index no_row row within in
    let longer = pushed c.push.result c.push.new.self.items (c.loop-row.guards.items ++ c.in_ok-one.one ∷ []) c.loop-row.guards.items (sym c.is_err.ensures.value ∙ c.if-is_err.false) c.push.ensures.items in
    let kept = kept_by _ _ _ _ c.in_ok-one.ensures.names in
    record {
      names = names_more (row_texts c.args.entries.now) c.args.rows.now c.loop-row.row-index row within is
          c.args.names.now c.loop-row.names c.guard.new.names c.loop-row.invariant.names c.in_ok-one.ensures.names.names;
      guards = rw (longer, front_of (row_texts c.args.entries.now) c.args.rows.now c.loop-row.row-index row within is)
          (AllZip-more (IsGuardOf c.guard.new.names c.args.entries.now) _ _ c.in_ok-one.one row
          (AllZip-to (IsGuardOf c.loop-row.names c.args.entries.now) (IsGuardOf c.guard.new.names c.args.entries.now) _ _ (λ g row one. IsGuardOf-kept c.loop-row.names c.guard.new.names c.args.entries.now g row kept one) c.loop-row.invariant.guards)
          c.in_ok-one.ensures.guard);
      memo = c.in_ok-one.ensures.memo;
    }

pub returns-clause-names : goal.returns-clause-names
returns-clause-names c = all_taken (row_texts c.args.entries.now) c.args.rows.now c.loop-row.row-index c.from_vec.result c.args.names.now c.loop-row.names (omega arith) c.loop-row.invariant.names
