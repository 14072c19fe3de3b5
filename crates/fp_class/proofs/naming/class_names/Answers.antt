use Rattle.std.proofs.Common.{◌<◌, ◌∷◌, [], length, get_or, take, ◌+◌, ◌++◌, sym, ◌∙◌, arith}
use Rattle.std.proofs.lemmas.List.{get_or_default, take_more}
use Rattle.std.proofs.lemmas.Result.{err_from_is_err_and}
use Rattle.std.specs.List.{flat_map}
use Rattle.std.specs.Option.{option_to_list}
use Rattle.fp_model.specs.Entries.{class_name_at}
use Rattle.fp_class.specs.Interning.{IsClassName}
use Rattle.fp_class.proofs.NamedParts.{AllZip-to, AllZip-more, IsClassName-kept}
use Rattle.fp_model.proofs.Interned.{interned_lost, kept_by}
use Rattle.fp_ops.proofs.Tables.{all_interned, names_more, pushed, one_stops}
use Rattle.fp_class.proofs.naming.class_names.Goals as goal

pub returns-in_err-number-clause-names : goal.returns-in_err-number-clause-names
returns-in_err-number-clause-names c =
    let p = err_from_is_err_and c.from_residual.result c.from_residual.ensures.1 in
    let within : c.loop-index.index-index < length c.args.indexes.now = omega arith in
    let index = get_or c.args.indexes.now c.loop-index.index-index 0 in
    rw (p.1, p.2)
    (one_stops (λ index. option_to_list (class_name_at c.args.entries.now index)) c.args.indexes.now c.loop-index.index-index index within (get_or_default c.args.indexes.now c.loop-index.index-index 0 index within)
    c.in_err-number.field-0.0 c.args.names.now c.loop-index.names c.class_name.new.names c.loop-index.invariant.names c.in_err-number.ensures.names)

pub returns-then-is_err-clause-names : goal.returns-then-is_err-clause-names
returns-then-is_err-clause-names c =
    let within : c.loop-index.index-index < length c.args.indexes.now = omega arith in
    let index = get_or c.args.indexes.now c.loop-index.index-index 0 in
    interned_lost c.args.names.now c.class_name.new.names (flat_map (λ index. option_to_list (class_name_at c.args.entries.now index)) (take (c.loop-index.index-index + 1) c.args.indexes.now)) _
    (names_more (λ index. option_to_list (class_name_at c.args.entries.now index)) c.args.indexes.now c.loop-index.index-index index within (get_or_default c.args.indexes.now c.loop-index.index-index 0 index within)
    c.args.names.now c.loop-index.names c.class_name.new.names c.loop-index.invariant.names c.in_ok-number.ensures.names.names)

pub loop-index-preserved : goal.loop-index-preserved
loop-index-preserved c =
    let within : c.loop-index.index-index < length c.args.indexes.now = omega arith in
    let index = get_or c.args.indexes.now c.loop-index.index-index 0 in
    let longer = pushed c.push.result c.push.new.self.items (c.loop-index.numbers.items ++ c.in_ok-number.number ∷ []) c.loop-index.numbers.items (sym c.is_err.ensures.value ∙ c.if-is_err.false) c.push.ensures.items in
    let kept = kept_by _ _ _ _ c.in_ok-number.ensures.names in
    record {
      names = names_more (λ index. option_to_list (class_name_at c.args.entries.now index)) c.args.indexes.now c.loop-index.index-index index within (get_or_default c.args.indexes.now c.loop-index.index-index 0 index within)
          c.args.names.now c.loop-index.names c.class_name.new.names c.loop-index.invariant.names c.in_ok-number.ensures.names.names;
      numbers = rw (longer, take_more c.args.indexes.now c.loop-index.index-index 0 within)
          (AllZip-more (IsClassName c.class_name.new.names c.args.entries.now) _ _ c.in_ok-number.number index
          (AllZip-to (IsClassName c.loop-index.names c.args.entries.now) (IsClassName c.class_name.new.names c.args.entries.now) _ _ (λ n i is. IsClassName-kept c.loop-index.names c.class_name.new.names c.args.entries.now n i kept is) c.loop-index.invariant.numbers)
          c.in_ok-number.ensures.number);
      memo = c.in_ok-number.ensures.memo;
    }

pub returns-clause-names : goal.returns-clause-names
returns-clause-names c = all_interned (λ index. option_to_list (class_name_at c.args.entries.now index)) c.args.indexes.now c.loop-index.index-index c.from_vec.result c.args.names.now c.loop-index.names (omega arith) c.loop-index.invariant.names
