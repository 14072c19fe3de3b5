use Rattle.std.proofs.Common.{[], ◌∷◌, Err}
use Rattle.std.proofs.lemmas.Bool.{and_parts}
use Rattle.std.proofs.lemmas.Result.{err_from_is_err_and}
use Rattle.std.specs.Option.{is_some, unwrap_or}
use Rattle.fp_model.specs.Descriptor.{is_field_descriptor, kind_names}
use Rattle.fp_model.specs.Entries.{passes, text_at}
use Rattle.fp_class.proofs.NamedParts.{entry_passes, field_named}
use Rattle.fp_model.proofs.Interned.{after_one, interned_stop, interned_then, interned_as, kept_by}
use Rattle.fp_class.proofs.naming.field.Goals as goal

pub returns-in_err-name-clause-names : goal.returns-in_err-name-clause-names
returns-in_err-name-clause-names c =
    let p = err_from_is_err_and c.from_residual.result c.from_residual.ensures.1 in
    let descr = unwrap_or (text_at c.args.entries.now c.args.member.now.descr) [] in
    rw (p.1, p.2)
    (interned_stop c.in_err-name.field-0.0 c.args.names.now c.text.new.names (unwrap_or (text_at c.args.entries.now c.args.member.now.name) [] ∷ []) (descr ∷ kind_names descr) c.in_err-name.ensures.names)

pub returns-in_err-descr-clause-names : goal.returns-in_err-descr-clause-names
returns-in_err-descr-clause-names c =
    let p = err_from_is_err_and c.from_residual-in_err-descr.result c.from_residual-in_err-descr.ensures.1 in
    let descr = unwrap_or (text_at c.args.entries.now c.args.member.now.descr) [] in
    rw (p.1, p.2)
    (after_one c.in_err-descr.field-0.0 c.args.names.now c.text.new.names c.text-2.new.names (unwrap_or (text_at c.args.entries.now c.args.member.now.name) [] ∷ []) (descr ∷ []) (kind_names descr) c.in_ok-name.ensures.names.names c.in_err-descr.ensures.names)

pub returns-in_err-kind-clause-names : goal.returns-in_err-kind-clause-names
returns-in_err-kind-clause-names c =
    let p = err_from_is_err_and c.from_residual-in_err-kind.result c.from_residual-in_err-kind.ensures.1 in
    let name = unwrap_or (text_at c.args.entries.now c.args.member.now.name) [] in
    let descr = unwrap_or (text_at c.args.entries.now c.args.member.now.descr) [] in
    let f = c.in_err-kind.field-0.0 in
    rw (p.1, p.2)
    (interned_then (Err f) c.args.names.now c.text.new.names c.kind_at.new.names (name ∷ []) (descr ∷ kind_names descr) c.in_ok-name.ensures.names.names
    (interned_then (Err f) c.text.new.names c.text-2.new.names c.kind_at.new.names (descr ∷ []) (kind_names descr) c.in_ok-descr.ensures.names.names
    (interned_as f c.text-2.new.names c.kind_at.new.names (kind_names descr) c.in_err-kind.ensures.names)))

pub returns-clause-field : goal.returns-clause-field
returns-clause-field c =
    field_named c.text.new.names c.text-2.new.names c.kind_at.new.names c.args.entries.now c.args.member.now c.in_ok-name.name c.in_ok-descr.descr c.in_ok-kind.kind c.requires.sound
    c.in_ok-name.ensures.number (kept_by _ _ _ _ c.in_ok-descr.ensures.names) c.in_ok-descr.ensures.number (kept_by _ _ _ _ c.in_ok-kind.ensures.names) c.in_ok-kind.ensures.kind

pub kind_at-requires-clause-descr : goal.kind_at-requires-clause-descr
kind_at-requires-clause-descr c =
    entry_passes is_field_descriptor c.args.entries.now c.args.member.now.descr c.requires.pool
    (and_parts (is_some (text_at c.args.entries.now c.args.member.now.name)) (passes is_field_descriptor (text_at c.args.entries.now c.args.member.now.descr)) c.requires.sound).1
