use Rattle.std.proofs.Common.{◌<◌, ◌∷◌, [], length, take, ◌+◌, ◌++◌, sym, ◌∙◌, arith}
use Rattle.std.proofs.lemmas.Result.{err_from_is_err_and}
use Rattle.std.specs.List.{flat_map}
use Rattle.fp_class.specs.Classes.{field_names}
use Rattle.fp_class.specs.Interning.{IsNamedField}
use Rattle.fp_class.proofs.NamedParts.{AllZip-to, AllZip-more, IsNamedField-kept}
use Rattle.fp_model.proofs.Interned.{interned_lost, kept_by}
use Rattle.fp_ops.proofs.Tables.{all_interned, front_of, names_more, pushed, one_stops}
use Rattle.fp_class.proofs.naming.fields.Goals as goal

pub returns-in_err-one-clause-names : goal.returns-in_err-one-clause-names
returns-in_err-one-clause-names c =
    let p = err_from_is_err_and c.from_residual.result c.from_residual.ensures.1 in
    let within : c.loop-member.member-index < length c.args.members.now = omega arith in
    rw (p.1, p.2)
    (one_stops (field_names c.args.entries.now) c.args.members.now c.loop-member.member-index c.member-item.result within c.member-item.is
    c.in_err-one.field-0.0 c.args.names.now c.loop-member.names c.field.new.names c.loop-member.invariant.names c.in_err-one.ensures.names)

pub returns-then-is_err-clause-names : goal.returns-then-is_err-clause-names
returns-then-is_err-clause-names c =
    let within : c.loop-member.member-index < length c.args.members.now = omega arith in
    interned_lost c.args.names.now c.field.new.names (flat_map (field_names c.args.entries.now) (take (c.loop-member.member-index + 1) c.args.members.now)) _
    (names_more (field_names c.args.entries.now) c.args.members.now c.loop-member.member-index c.member-item.result within c.member-item.is
    c.args.names.now c.loop-member.names c.field.new.names c.loop-member.invariant.names c.in_ok-one.ensures.names.names)

pub loop-member-preserved : goal.loop-member-preserved
loop-member-preserved c =
    let within : c.loop-member.member-index < length c.args.members.now = omega arith in
    let longer = pushed c.push.result c.push.new.self.items (c.loop-member.fields.items ++ c.in_ok-one.one ∷ []) c.loop-member.fields.items (sym c.is_err.ensures.value ∙ c.if-is_err.false) c.push.ensures.items in
    let kept = kept_by _ _ _ _ c.in_ok-one.ensures.names in
    record {
      names = names_more (field_names c.args.entries.now) c.args.members.now c.loop-member.member-index c.member-item.result within c.member-item.is
          c.args.names.now c.loop-member.names c.field.new.names c.loop-member.invariant.names c.in_ok-one.ensures.names.names;
      fields = rw (longer, front_of (field_names c.args.entries.now) c.args.members.now c.loop-member.member-index c.member-item.result within c.member-item.is)
          (AllZip-more (IsNamedField c.field.new.names c.args.entries.now) _ _ c.in_ok-one.one c.member-item.result
          (AllZip-to (IsNamedField c.loop-member.names c.args.entries.now) (IsNamedField c.field.new.names c.args.entries.now) _ _ (λ f m is. IsNamedField-kept c.loop-member.names c.field.new.names c.args.entries.now f m kept is) c.loop-member.invariant.fields)
          c.in_ok-one.ensures.field);
      memo = c.in_ok-one.ensures.memo;
    }

pub returns-clause-names : goal.returns-clause-names
returns-clause-names c = all_interned (field_names c.args.entries.now) c.args.members.now c.loop-member.member-index c.from_vec.result c.args.names.now c.loop-member.names (omega arith) c.loop-member.invariant.names
