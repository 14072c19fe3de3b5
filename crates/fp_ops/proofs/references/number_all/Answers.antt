use Rattle.std.proofs.Common.{[], ◌∷◌, Err, ◌∙◌}
use Rattle.std.proofs.lemmas.Result.{err_from_is_err_and}
use Rattle.fp_model.specs.Entries.{text_at}
use Rattle.fp_model.proofs.Interned.{after_one, interned_stop, interned_then, interned_as, kept_by, Keeps-then}
use Rattle.fp_ops.specs.References.{texts_at}
use Rattle.fp_ops.proofs.Memos.{there}
use Rattle.fp_ops.proofs.references.number_all.Goals as goal

pub returns-in_err-class-clause-names : goal.returns-in_err-class-clause-names
returns-in_err-class-clause-names c =
    let p = err_from_is_err_and c.from_residual.result c.from_residual.ensures.1 in
    let texts = texts_at c.args.entries.now c.args.reference.class c.args.reference.name c.args.reference.descr in
    rw (p.1, p.2)
    (interned_stop c.in_err-class.field-0.0 c.args.names.now c.text.new.names (texts.class ∷ []) (texts.name ∷ (texts.descr ∷ [])) c.in_err-class.ensures.names)

pub returns-in_err-name-clause-names : goal.returns-in_err-name-clause-names
returns-in_err-name-clause-names c =
    let p = err_from_is_err_and c.from_residual-in_err-name.result c.from_residual-in_err-name.ensures.1 in
    let texts = texts_at c.args.entries.now c.args.reference.class c.args.reference.name c.args.reference.descr in
    rw (p.1, p.2)
    (after_one c.in_err-name.field-0.0 c.args.names.now c.text.new.names c.text-2.new.names (texts.class ∷ []) (texts.name ∷ []) (texts.descr ∷ []) c.in_ok-class.ensures.names.names c.in_err-name.ensures.names)

pub returns-in_err-descr-clause-names : goal.returns-in_err-descr-clause-names
returns-in_err-descr-clause-names c =
    let p = err_from_is_err_and c.from_residual-in_err-descr.result c.from_residual-in_err-descr.ensures.1 in
    let texts = texts_at c.args.entries.now c.args.reference.class c.args.reference.name c.args.reference.descr in
    let f = c.in_err-descr.field-0.0 in
    rw (p.1, p.2)
    (interned_then (Err f) c.args.names.now c.text.new.names c.text-3.new.names (texts.class ∷ []) (texts.name ∷ (texts.descr ∷ [])) c.in_ok-class.ensures.names.names
    (interned_then (Err f) c.text.new.names c.text-2.new.names c.text-3.new.names (texts.name ∷ []) (texts.descr ∷ []) c.in_ok-name.ensures.names.names
    (interned_as f c.text-2.new.names c.text-3.new.names (texts.descr ∷ []) c.in_err-descr.ensures.names)))

pub returns-clause-numbers : goal.returns-clause-numbers
returns-clause-numbers c =
    let entries = c.args.entries.now in
    let texts = texts_at entries c.args.reference.class c.args.reference.name c.args.reference.descr in
    let second = kept_by _ _ _ _ c.in_ok-name.ensures.names in
    let third = kept_by _ _ _ _ c.in_ok-descr.ensures.names in
    record {
      class_is = (Keeps-then c.text.new.names c.text-2.new.names c.text-3.new.names second third).stands c.in_ok-class.class texts.class
          (c.in_ok-class.ensures.number ∙ there (text_at entries c.args.reference.class) c.requires.there.class_there);
      name_is = third.stands c.in_ok-name.name texts.name (c.in_ok-name.ensures.number ∙ there (text_at entries c.args.reference.name) c.requires.there.name_there);
      descr_is = c.in_ok-descr.ensures.number ∙ there (text_at entries c.args.reference.descr) c.requires.there.descr_there;
    }
