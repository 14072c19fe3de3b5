use Rattle.std.proofs.Common.{◌+◌, ◌∙◌, ap, subst}
use Rattle.std.proofs.lemmas.Result.{err_from_is_err_and}
use Rattle.std.specs.List.{flat_map}
use Rattle.fp_model.specs.Descriptor.{kind_names, parameters, result_of, IsResultOf}
use Rattle.fp_base.specs.Names.{with_names}
use Rattle.fp_model.proofs.ArrayTypes.{from_place}
use Rattle.fp_model.proofs.MethodKinds.{descr_made, result_is}
use Rattle.fp_model.proofs.Taking.{kept_by, taken_both, taken_first, taken_last, taken_ok}
use Rattle.fp_model.proofs.descriptor.method_reading.read_parts.Goals as goal

pub returns-in_err-args-clause-names : goal.returns-in_err-args-clause-names
returns-in_err-args-clause-names c =
    let p = err_from_is_err_and c.from_residual.result c.from_residual.ensures.1 in
    let text = c.args.text.now in
    rw (p.1, p.2) (taken_first c.in_err-args.field-0.0 c.args.names.now c.read_args.new.names (flat_map kind_names (parameters text)) (kind_names (result_of text)) c.in_err-args.ensures.names)

pub returns-in_err-result-clause-names : goal.returns-in_err-result-clause-names
returns-in_err-result-clause-names c =
    let p = err_from_is_err_and c.from_residual-in_err-result.result c.from_residual-in_err-result.ensures.1 in
    let text = c.args.text.now in
    let is = from_place text (c.in_ok-args.end + 1) ∙ result_is text c.in_ok-args.end c.in_ok-args.ensures.end in
    rw (p.1, p.2) (taken_last c.in_err-result.field-0.0 c.args.names.now c.read_args.new.names c.read_result.new.names (flat_map kind_names (parameters text)) _ (kind_names (result_of text)) c.in_ok-args.ensures.names.names (ap kind_names is) c.in_err-result.ensures.names)

pub returns-clause-descr : goal.returns-clause-descr
returns-clause-descr c =
    let text = c.args.text.now in
    let kept = kept_by _ _ _ _ c.read_result.ensures.names in
    descr_made text c.in_ok-args.end c.in_ok-args.ensures.end c.read_args.new.names c.read_result.new.names c.in_ok-args.args c.in_ok-result.result kept c.in_ok-args.ensures.args
    (subst (λ t. IsResultOf c.read_result.new.names t c.in_ok-result.result) (from_place text (c.in_ok-args.end + 1)) c.in_ok-result.ensures.kind)

pub returns-clause-names : goal.returns-clause-names
returns-clause-names c =
    let text = c.args.text.now in
    let is = from_place text (c.in_ok-args.end + 1) ∙ result_is text c.in_ok-args.end c.in_ok-args.ensures.end in
    taken_ok _ c.args.names.now c.read_result.new.names _
    (taken_both c.args.names.now c.read_args.new.names c.read_result.new.names (flat_map kind_names (parameters text)) (kind_names (result_of text)) c.in_ok-args.ensures.names.names
    (c.in_ok-result.ensures.names.names ∙ ap (λ t. with_names c.read_args.new.names (kind_names t)) is))
