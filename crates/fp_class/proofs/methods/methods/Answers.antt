use Rattle.std.proofs.Common.{◌<◌, ◌∷◌, [], length, take, ◌+◌, ◌++◌, sym, ◌∙◌, arith}
use Rattle.std.proofs.lemmas.Result.{err_from_is_err_and}
use Rattle.std.specs.List.{flat_map}
use Rattle.fp_model.proofs.Taking.{kept_by, taken_late}
use Rattle.fp_class.specs.Classes.{method_names}
use Rattle.fp_class.specs.Naming.{IsNamedMethod}
use Rattle.fp_class.proofs.NamedMethods.{IsNamedMethod-kept}
use Rattle.fp_class.proofs.NamedParts.{AllZip-to, AllZip-more}
use Rattle.fp_ops.proofs.Tables.{front_of, names_more, pushed}
use Rattle.fp_ops.proofs.TakenTexts.{all_taken, one_stops}
use Rattle.fp_class.proofs.methods.methods.Goals as goal

pub returns-in_err-one-clause-names : goal.returns-in_err-one-clause-names
returns-in_err-one-clause-names c =
    let p = err_from_is_err_and c.from_residual.result c.from_residual.ensures.1 in
    let within : c.loop-member.member-index < length c.args.members.now = omega arith in
    rw (p.1, p.2)
    (one_stops (method_names c.args.pool.now.entries c.args.boots.now) c.args.members.now c.loop-member.member-index c.member-item.result c.in_err-one.field-0.0 c.args.names.now c.loop-member.names c.method.new.names
    within c.member-item.is c.loop-member.invariant.names c.in_err-one.ensures.names)

pub returns-then-is_err-clause-names : goal.returns-then-is_err-clause-names
returns-then-is_err-clause-names c =
    let within : c.loop-member.member-index < length c.args.members.now = omega arith in
    taken_late c.args.names.now c.method.new.names (flat_map (method_names c.args.pool.now.entries c.args.boots.now) (take (c.loop-member.member-index + 1) c.args.members.now)) _
    (names_more (method_names c.args.pool.now.entries c.args.boots.now) c.args.members.now c.loop-member.member-index c.member-item.result within c.member-item.is
    c.args.names.now c.loop-member.names c.method.new.names c.loop-member.invariant.names c.in_ok-one.ensures.names.names)

pub loop-member-preserved : goal.loop-member-preserved
loop-member-preserved c =
    let within : c.loop-member.member-index < length c.args.members.now = omega arith in
    let texts = method_names c.args.pool.now.entries c.args.boots.now in
    let before = IsNamedMethod c.loop-member.names c.args.pool.now.entries c.args.boots.now in
    let after = IsNamedMethod c.method.new.names c.args.pool.now.entries c.args.boots.now in
    let longer = pushed c.push.result c.push.new.self.items (c.loop-member.methods.items ++ c.in_ok-one.one ∷ []) c.loop-member.methods.items (sym c.is_err.ensures.value ∙ c.if-is_err.false) c.push.ensures.items in
    let kept = kept_by _ _ _ _ c.in_ok-one.ensures.names in
    record {
      names = names_more texts c.args.members.now c.loop-member.member-index c.member-item.result within c.member-item.is
          c.args.names.now c.loop-member.names c.method.new.names c.loop-member.invariant.names c.in_ok-one.ensures.names.names;
      methods = rw (longer, front_of texts c.args.members.now c.loop-member.member-index c.member-item.result within c.member-item.is)
          (AllZip-more after _ _ c.in_ok-one.one c.member-item.result
          (AllZip-to before after _ _ (λ m member is. IsNamedMethod-kept c.loop-member.names c.method.new.names kept c.args.pool.now.entries c.args.boots.now m member is) c.loop-member.invariant.methods)
          c.in_ok-one.ensures.method);
      memo = c.in_ok-one.ensures.memo;
      rows = c.in_ok-one.ensures.rows;
    }

pub returns-clause-names : goal.returns-clause-names
returns-clause-names c = all_taken (method_names c.args.pool.now.entries c.args.boots.now) c.args.members.now c.loop-member.member-index c.from_vec.result c.args.names.now c.loop-member.names (omega arith) c.loop-member.invariant.names
