use Rattle.std.proofs.Common.{Err}
use Rattle.std.proofs.lemmas.Result.{err_from_is_err_and}
use Rattle.fp_model.specs.Descriptor.{kind_names}
use Rattle.fp_model.proofs.Interned.{interned_stop, interned_then, interned_as, kept_by}
use Rattle.fp_ops.specs.References.{member_names, texts_at}
use Rattle.fp_ops.proofs.LongerInstrs.{member_kept}
use Rattle.fp_ops.proofs.named.field_instr.Goals as goal

pub returns-in_err-numbers-clause-names : goal.returns-in_err-numbers-clause-names
returns-in_err-numbers-clause-names c =
    let p = err_from_is_err_and c.from_residual.result c.from_residual.ensures.1 in
    let texts = texts_at c.args.entries.now c.args.reference.class c.args.reference.name c.args.reference.descr in
    rw (p.1, p.2)
    (interned_stop c.in_err-numbers.field-0.0 c.args.names.now c.number_all.new.names (member_names texts) (kind_names texts.descr) c.in_err-numbers.ensures.names)

pub returns-in_err-kind-clause-names : goal.returns-in_err-kind-clause-names
returns-in_err-kind-clause-names c =
    let p = err_from_is_err_and c.from_residual-in_err-kind.result c.from_residual-in_err-kind.ensures.1 in
    let texts = texts_at c.args.entries.now c.args.reference.class c.args.reference.name c.args.reference.descr in
    let f = c.in_err-kind.field-0.0 in
    rw (p.1, p.2)
    (interned_then (Err f) c.args.names.now c.number_all.new.names c.kind_at.new.names (member_names texts) (kind_names texts.descr) c.in_ok-numbers.ensures.names.names
    (interned_as f c.number_all.new.names c.kind_at.new.names (kind_names texts.descr) c.in_err-kind.ensures.names))

pub returns-clause-instr : goal.returns-clause-instr
returns-clause-instr c =
    let texts = texts_at c.args.entries.now c.args.reference.class c.args.reference.name c.args.reference.descr in
    c.field_access.ensures c.kind_at.new.names texts
    (member_kept c.number_all.new.names c.kind_at.new.names (kept_by _ _ _ _ c.in_ok-kind.ensures.names) texts c.in_ok-numbers.numbers.class c.in_ok-numbers.numbers.name c.in_ok-numbers.numbers.descr c.in_ok-numbers.ensures.numbers)
    c.in_ok-kind.ensures.kind
