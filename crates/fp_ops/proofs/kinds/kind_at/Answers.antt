use Rattle.std.proofs.Common.{sym}
use Rattle.fp_model.specs.Descriptor.{is_field_descriptor}
use Rattle.fp_model.specs.Entries.{text_at}
use Rattle.fp_model.specs.NamedInstructions.{is_entry_text}
use Rattle.fp_ops.proofs.Memos.{kind_told, kind_interned, kind_noted, place_within}
use Rattle.fp_ops.proofs.NamedParts.{passes-is_some}
use Rattle.fp_ops.proofs.kinds.kind_at.Goals as goal

pub returns-in-Some-clause-kind : goal.returns-in-Some-clause-kind
returns-in-Some-clause-kind c = kind_told c.args.names.now c.args.entries.now c.args.memo.now c.args.index c.in-Some.kind c.requires.memo (sym c.in-Some.ensures)

pub returns-in-Some-clause-names : goal.returns-in-Some-clause-names
returns-in-Some-clause-names c = kind_interned c.args.names.now c.args.entries.now c.args.memo.now c.args.index c.in-Some.kind c.requires.memo (sym c.in-Some.ensures)

pub keep_kind-requires : goal.keep_kind-requires
keep_kind-requires c =
    place_within _ c.args.entries.now c.args.memo.now.kinds.items c.args.index c.requires.memo.kinds
    (passes-is_some (is_entry_text is_field_descriptor) (text_at c.args.entries.now c.args.index) c.requires.descr)

pub returns-clause-memo : goal.returns-clause-memo
returns-clause-memo c =
    kind_noted c.args.names.now c.read_kind_at.new.names c.args.entries.now c.args.memo.now c.keep_kind.new.memo c.args.index
    c.requires.memo (passes-is_some (is_entry_text is_field_descriptor) (text_at c.args.entries.now c.args.index) c.requires.descr)
    c.in_ok-kind.kind c.in_ok-kind.ensures.names c.in_ok-kind.ensures.kind c.keep_kind.ensures.kinds c.keep_kind.ensures.numbers c.keep_kind.ensures.elements c.keep_kind.ensures.descrs
