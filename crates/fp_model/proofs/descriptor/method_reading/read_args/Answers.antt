use Rattle.std.proofs.Common.{◌≡◌, ◌+◌, ◌∙◌, [], ◌∷◌, ◌++◌, List, ℕ, drop, length, refl, sym, ap, subst}
use Rattle.std.proofs.lemmas.Result.{err_from_is_err_and}
use Rattle.std.specs.List.{flat_map, AllZip}
use Rattle.fp_base.specs.Names.{with_names}
use Rattle.fp_model.specs.Descriptor.{first_field, is_field_descriptor, kind_names, parameters, IsKindOf}
use Rattle.fp_model.proofs.MethodKinds.{UpTo, kinds_next, up_to_all, up_to_end, up_to_field, up_to_length, up_to_next, up_to_open, up_to_split, up_to_within}
use Rattle.fp_model.proofs.Taking.{kept_by, names_more, one_stops, pushed, taken_late, taken_ok}
use Rattle.fp_model.proofs.descriptor.method_reading.read_args.Goals as goal

pub loop-at-init : goal.loop-at-init
loop-at-init c =
    let open_ = up_to_open c.args.text.now c.requires.method in
    let nothing : List (List ℕ) = [] in
    (up_to_within c.args.text.now 1 nothing open_, nothing, open_, refl, subst (λ kinds. AllZip (IsKindOf c.args.names.now) nothing kinds) (sym c.new-args.ensures.items) tt)

pub read_field-requires-clause-field : goal.read_field-requires-clause-field
read_field-requires-clause-field c =
    let (within, done, so_far, names, kinds) = c.loop-at.invariant in
    ap is_field_descriptor c.field_at-field.ensures.field ∙ (up_to_field c.args.text.now c.loop-at.at done so_far c.loop-at-test.true).field

pub returns-in_err-kind-clause-names : goal.returns-in_err-kind-clause-names
returns-in_err-kind-clause-names c =
    let (within, done, so_far, names, kinds) = c.loop-at.invariant in
    let p = err_from_is_err_and c.from_residual.result c.from_residual.ensures.1 in
    let left = up_to_split c.args.text.now c.loop-at.at done so_far c.loop-at-test.true in
    let is : done ++ c.field_at-field.result.now ∷ left.0 ≡ parameters c.args.text.now = ap (λ f. done ++ f ∷ left.0) c.field_at-field.ensures.field ∙ left.1 in
    rw (p.1, p.2) (one_stops done c.field_at-field.result.now left.0 (parameters c.args.text.now) is c.in_err-kind.field-0.0 c.args.names.now c.loop-at.names c.read_field.new.names names c.in_err-kind.ensures.names)

pub returns-then-is_err-clause-names : goal.returns-then-is_err-clause-names
returns-then-is_err-clause-names c =
    let (within, done, so_far, names, kinds) = c.loop-at.invariant in
    taken_late c.args.names.now c.read_field.new.names (flat_map kind_names (done ++ c.field_at-field.result.now ∷ [])) _
    (names_more done c.field_at-field.result.now c.args.names.now c.loop-at.names c.read_field.new.names names c.in_ok-kind.ensures.names.names)

pub loop-at-preserved : goal.loop-at-preserved
loop-at-preserved c =
    let (within, done, so_far, names, kinds) = c.loop-at.invariant in
    let text = c.args.text.now in
    let field = c.field_at-field.result.now in
    let longer = pushed c.push.result c.push.new.self.items (c.loop-at.args.items ++ c.in_ok-kind.kind ∷ []) c.loop-at.args.items (sym c.is_err.ensures.value ∙ c.if-is_err.false) c.push.ensures.items in
    let size = up_to_length text c.loop-at.at done so_far field c.loop-at-test.true c.field_at-field.ensures.field in
    let further = up_to_next text c.loop-at.at done so_far (length field) c.loop-at-test.true size in
    let kept = kept_by _ _ _ _ c.in_ok-kind.ensures.names in
    let is : first_field (drop c.loop-at.at text) ≡ field = sym c.field_at-field.ensures.field in (
      up_to_within text _ _ further,
      done ++ field ∷ [],
      subst (λ f. UpTo text (c.loop-at.at + length field) (done ++ f ∷ [])) is further,
      names_more done field c.args.names.now c.loop-at.names c.read_field.new.names names c.in_ok-kind.ensures.names.names,
      rw longer (kinds_next c.loop-at.names c.read_field.new.names done c.loop-at.args.items field c.in_ok-kind.kind kept kinds c.in_ok-kind.ensures.kind),
    )

pub returns-clause-args : goal.returns-clause-args
returns-clause-args c =
    let (within, done, so_far, names, kinds) = c.loop-at.invariant in
    rw c.from_vec.ensures (subst (λ fields. AllZip (IsKindOf c.loop-at.names) fields c.loop-at.args.items) (up_to_all c.args.text.now c.loop-at.at done so_far c.loop-at-test.false) kinds)

pub returns-clause-end : goal.returns-clause-end
returns-clause-end c =
    let (within, done, so_far, names, kinds) = c.loop-at.invariant in
    up_to_end c.args.text.now c.loop-at.at done so_far c.loop-at-test.false

pub returns-clause-names : goal.returns-clause-names
returns-clause-names c =
    let (within, done, so_far, names, kinds) = c.loop-at.invariant in
    taken_ok _ c.args.names.now c.loop-at.names (flat_map kind_names (parameters c.args.text.now))
    (names ∙ ap (λ l. with_names c.args.names.now (flat_map kind_names l)) (up_to_all c.args.text.now c.loop-at.at done so_far c.loop-at-test.false))
