use Rattle.std.proofs.Common.{Err, refl}
use Rattle.std.proofs.lemmas.Result.{err_from_is_err_and}
use Rattle.fp_model.specs.Descriptor.{descr_names}
use Rattle.fp_model.specs.NamedInstructions.{call_texts}
use Rattle.fp_model.proofs.Interned.{interned_stop}
use Rattle.fp_model.proofs.Taking.{taken_last, kept_by}
use Rattle.fp_ops.specs.References.{member_names, texts_at}
use Rattle.fp_ops.proofs.TakenTexts.{taken_of}
use Rattle.fp_ops.proofs.LongerInstrs.{member_kept}
use Rattle.fp_ops.proofs.named.call_instr.Goals as goal

pub returns-in_err-numbers-clause-names : goal.returns-in_err-numbers-clause-names
returns-in_err-numbers-clause-names c =
    let p = err_from_is_err_and c.from_residual.result c.from_residual.ensures.1 in
    let texts = texts_at c.args.entries.now c.args.reference.class c.args.reference.name c.args.reference.descr in
    let f = c.in_err-numbers.field-0.0 in
    rw (p.1, p.2)
    (taken_of (Err f) c.args.names.now c.number_all.new.names (call_texts texts)
    (interned_stop f c.args.names.now c.number_all.new.names (member_names texts) (descr_names texts.descr) c.in_err-numbers.ensures.names))

pub returns-in_err-kinds-clause-names : goal.returns-in_err-kinds-clause-names
returns-in_err-kinds-clause-names c =
    let p = err_from_is_err_and c.from_residual-in_err-kinds.result c.from_residual-in_err-kinds.ensures.1 in
    let texts = texts_at c.args.entries.now c.args.reference.class c.args.reference.name c.args.reference.descr in
    rw (p.1, p.2)
    (taken_last c.in_err-kinds.field-0.0 c.args.names.now c.number_all.new.names c.kinds_at.new.names (member_names texts) (descr_names texts.descr) (descr_names texts.descr) c.in_ok-numbers.ensures.names.names refl c.in_err-kinds.ensures.names)

pub returns-clause-instr : goal.returns-clause-instr
returns-clause-instr c =
    let texts = texts_at c.args.entries.now c.args.reference.class c.args.reference.name c.args.reference.descr in
    c.call.ensures c.kinds_at.new.names texts
    (member_kept c.number_all.new.names c.kinds_at.new.names (kept_by _ _ _ _ c.in_ok-kinds.ensures.names) texts c.in_ok-numbers.numbers.class c.in_ok-numbers.numbers.name c.in_ok-numbers.numbers.descr c.in_ok-numbers.ensures.numbers)
    c.in_ok-kinds.ensures.kinds
