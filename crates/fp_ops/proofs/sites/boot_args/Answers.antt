use Rattle.std.proofs.Common.{◌<◌, ◌∷◌, [], length, get_or, take, ◌+◌, ◌++◌, sym, ◌∙◌, arith}
use Rattle.std.specs.List.{flat_map, slice_get}
use Rattle.std.proofs.lemmas.List.{get_or_default, take_more}
use Rattle.std.proofs.lemmas.Result.{err_from_is_err_and}
use Rattle.fp_model.proofs.Taking.{kept_by, taken_late}
use Rattle.fp_ops.specs.CallSites.{arg_texts_at, IsArgAt}
use Rattle.fp_ops.proofs.LongerInstrs.{arg_kept}
use Rattle.fp_ops.proofs.NamedParts.{AllZip-to, AllZip-more}
use Rattle.fp_ops.proofs.Tables.{names_more, pushed}
use Rattle.fp_ops.proofs.TakenTexts.{all_taken, one_stops}
use Rattle.fp_ops.proofs.sites.boot_args.Goals as goal

pub returns-in_err-arg-clause-names : goal.returns-in_err-arg-clause-names
returns-in_err-arg-clause-names c =
    let p = err_from_is_err_and c.from_residual.result c.from_residual.ensures.1 in
    let within : c.loop-index.index-index < length c.args.indexes.now = omega arith in
    let index = get_or c.args.indexes.now c.loop-index.index-index 0 in
    rw (p.1, p.2)
    (one_stops (arg_texts_at c.args.entries.now) c.args.indexes.now c.loop-index.index-index index c.in_err-arg.field-0.0 c.args.names.now c.loop-index.names c.boot_arg.new.names
    within (get_or_default c.args.indexes.now c.loop-index.index-index 0 index within) c.loop-index.invariant.names c.in_err-arg.ensures.names)

pub returns-then-is_err-clause-names : goal.returns-then-is_err-clause-names
returns-then-is_err-clause-names c =
    let within : c.loop-index.index-index < length c.args.indexes.now = omega arith in
    let index = get_or c.args.indexes.now c.loop-index.index-index 0 in
    taken_late c.args.names.now c.boot_arg.new.names (flat_map (arg_texts_at c.args.entries.now) (take (c.loop-index.index-index + 1) c.args.indexes.now)) _
    (names_more (arg_texts_at c.args.entries.now) c.args.indexes.now c.loop-index.index-index index within (get_or_default c.args.indexes.now c.loop-index.index-index 0 index within)
    c.args.names.now c.loop-index.names c.boot_arg.new.names c.loop-index.invariant.names c.in_ok-arg.ensures.names.names)

pub loop-index-preserved : goal.loop-index-preserved
loop-index-preserved c =
    let within : c.loop-index.index-index < length c.args.indexes.now = omega arith in
    let index = get_or c.args.indexes.now c.loop-index.index-index 0 in
    let longer = pushed c.push.result c.push.new.self.items (c.loop-index.args.items ++ c.in_ok-arg.arg ∷ []) c.loop-index.args.items (sym c.is_err.ensures.value ∙ c.if-is_err.false) c.push.ensures.items in
    let kept = kept_by _ _ _ _ c.in_ok-arg.ensures.names in
    record {
      names = names_more (arg_texts_at c.args.entries.now) c.args.indexes.now c.loop-index.index-index index within (get_or_default c.args.indexes.now c.loop-index.index-index 0 index within)
          c.args.names.now c.loop-index.names c.boot_arg.new.names c.loop-index.invariant.names c.in_ok-arg.ensures.names.names;
      args = rw (longer, take_more c.args.indexes.now c.loop-index.index-index 0 within)
          (AllZip-more (IsArgAt c.boot_arg.new.names c.args.entries.now) _ _ index c.in_ok-arg.arg
          (AllZip-to (IsArgAt c.loop-index.names c.args.entries.now) (IsArgAt c.boot_arg.new.names c.args.entries.now) _ _ (λ i a is. arg_kept c.loop-index.names c.boot_arg.new.names kept c.args.entries.now (slice_get c.args.entries.now i) a is) c.loop-index.invariant.args)
          c.in_ok-arg.ensures.arg);
      memo = c.in_ok-arg.ensures.memo;
    }

pub returns-clause-names : goal.returns-clause-names
returns-clause-names c = all_taken (arg_texts_at c.args.entries.now) c.args.indexes.now c.loop-index.index-index c.from_vec.result c.args.names.now c.loop-index.names (omega arith) c.loop-index.invariant.names
