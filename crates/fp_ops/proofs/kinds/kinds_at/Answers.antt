use Rattle.std.proofs.Common.{◌≡◌, Some, set, sym, ap, subst, ◌∙◌}
use Rattle.fp_model.specs.Descriptor.{is_method_descriptor}
use Rattle.fp_model.specs.Entries.{text_at}
use Rattle.fp_model.specs.NamedInstructions.{is_entry_text}
use Rattle.fp_ops.proofs.Memos.{descr_noted, descr_taken, descr_told, place_within}
use Rattle.fp_ops.proofs.NamedParts.{passes-is_some}
use Rattle.fp_ops.proofs.kinds.kinds_at.Goals as goal

pub returns-in-Ok-clause-kinds : goal.returns-in-Ok-clause-kinds
returns-in-Ok-clause-kinds c = descr_told c.args.names.now c.args.entries.now c.args.memo.now c.args.index c.in-Ok.kinds c.requires.memo (sym c.in-Some.ensures ∙ ap Some (sym c.in-Ok.ensures))

pub returns-in-Ok-clause-names : goal.returns-in-Ok-clause-names
returns-in-Ok-clause-names c = descr_taken c.args.names.now c.args.entries.now c.args.memo.now c.args.index c.in-Ok.kinds c.requires.memo (sym c.in-Some.ensures ∙ ap Some (sym c.in-Ok.ensures))

pub keep_descr-requires : goal.keep_descr-requires
keep_descr-requires c =
    place_within _ c.args.entries.now c.args.memo.now.descrs.items c.args.index c.requires.memo.descrs
    (passes-is_some (is_entry_text is_method_descriptor) (text_at c.args.entries.now c.args.index) c.requires.descr)

pub returns-in-Ok-pair-clause-memo : goal.returns-in-Ok-pair-clause-memo
returns-in-Ok-pair-clause-memo c =
    descr_noted c.args.names.now c.read_kinds_at.new.names c.args.entries.now c.args.memo.now c.keep_descr.new.memo c.args.index
    c.requires.memo (passes-is_some (is_entry_text is_method_descriptor) (text_at c.args.entries.now c.args.index) c.requires.descr)
    c.in_ok-kinds.kinds c.in_ok-kinds.ensures.names c.in_ok-kinds.ensures.kinds
    (subst (λ d. c.keep_descr.new.memo.descrs.items ≡ set c.args.memo.now.descrs.items c.args.index (Some d)) c.in-Ok-pair.ensures.0 c.keep_descr.ensures.descrs)
    c.keep_descr.ensures.numbers c.keep_descr.ensures.kinds c.keep_descr.ensures.elements
