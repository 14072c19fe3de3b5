use Rattle.std.proofs.Common.{sym, subst}
use Rattle.fp_model.specs.Descriptor.{is_field_descriptor}
use Rattle.fp_model.specs.Interning.{Interned}
use Rattle.fp_model.specs.NamedInstructions.{field_texts, is_entry_text, member_at, texts_by}
use Rattle.fp_ops.proofs.NamedParts.{passes-is_some}
use Rattle.fp_ops.proofs.ReferenceTexts.{reference_is, reference_passes, reference_there}
use Rattle.fp_ops.proofs.named.field_at.Goals as goal

pub field_instr-requires-clause-there : goal.field_instr-requires-clause-there
field_instr-requires-clause-there c =
    let member = member_at c.args.entries.now c.args.index in
    reference_there c.args.entries.now member c.in-Some.reference.class c.in-Some.reference.name c.in-Some.reference.descr c.in-Some.ensures.some
    (passes-is_some (λ texts. is_entry_text is_field_descriptor texts.descr) member c.requires.there)

pub field_instr-requires-clause-descr : goal.field_instr-requires-clause-descr
field_instr-requires-clause-descr c =
    let member = member_at c.args.entries.now c.args.index in
    reference_passes c.args.entries.now member c.in-Some.reference.class c.in-Some.reference.name c.in-Some.reference.descr c.in-Some.ensures.some
    (passes-is_some (λ texts. is_entry_text is_field_descriptor texts.descr) member c.requires.there) is_field_descriptor c.requires.there

pub returns-clause-names : goal.returns-clause-names
returns-clause-names c =
    let member = member_at c.args.entries.now c.args.index in
    subst (λ o. Interned c.field_instr.result c.args.names.now c.field_instr.new.names (texts_by field_texts o))
    (sym (reference_is c.args.entries.now member c.in-Some.reference.class c.in-Some.reference.name c.in-Some.reference.descr c.in-Some.ensures.some
    (passes-is_some (λ texts. is_entry_text is_field_descriptor texts.descr) member c.requires.there)))
    c.field_instr.ensures.names
