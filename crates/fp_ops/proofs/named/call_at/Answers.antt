use Rattle.std.proofs.Common.{sym, subst}
use Rattle.fp_model.specs.Descriptor.{is_method_descriptor}
use Rattle.fp_model.specs.Taking.{Taken}
use Rattle.fp_model.specs.NamedInstructions.{call_texts, is_entry_text, member_at, texts_by}
use Rattle.fp_ops.proofs.NamedParts.{passes-is_some}
use Rattle.fp_ops.proofs.ReferenceTexts.{reference_is, reference_passes, reference_there}
use Rattle.fp_ops.proofs.named.call_at.Goals as goal

pub call_instr-requires-clause-there : goal.call_instr-requires-clause-there
call_instr-requires-clause-there c =
    let member = member_at c.args.entries.now c.args.index in
    reference_there c.args.entries.now member c.in-Some.reference.class c.in-Some.reference.name c.in-Some.reference.descr c.in-Some.ensures.some
    (passes-is_some (λ texts. is_entry_text is_method_descriptor texts.descr) member c.requires.there)

pub call_instr-requires-clause-descr : goal.call_instr-requires-clause-descr
call_instr-requires-clause-descr c =
    let member = member_at c.args.entries.now c.args.index in
    reference_passes c.args.entries.now member c.in-Some.reference.class c.in-Some.reference.name c.in-Some.reference.descr c.in-Some.ensures.some
    (passes-is_some (λ texts. is_entry_text is_method_descriptor texts.descr) member c.requires.there) is_method_descriptor c.requires.there

pub returns-clause-names : goal.returns-clause-names
returns-clause-names c =
    let member = member_at c.args.entries.now c.args.index in
    subst (λ o. Taken c.call_instr.result c.args.names.now c.call_instr.new.names (texts_by call_texts o))
    (sym (reference_is c.args.entries.now member c.in-Some.reference.class c.in-Some.reference.name c.in-Some.reference.descr c.in-Some.ensures.some
    (passes-is_some (λ texts. is_entry_text is_method_descriptor texts.descr) member c.requires.there)))
    c.call_instr.ensures.names
