use Rattle.std.proofs.Common.{sym}
use Rattle.fp_model.specs.Entries.{text_at}
use Rattle.fp_model.specs.NamedInstructions.{is_array_text, is_entry_text}
use Rattle.fp_ops.proofs.Memos.{element_told, element_interned, element_noted, place_within}
use Rattle.fp_ops.proofs.NamedParts.{passes-is_some}
use Rattle.fp_ops.proofs.kinds.element_at.Goals as goal

pub returns-in-Some-clause-kind : goal.returns-in-Some-clause-kind
returns-in-Some-clause-kind c = element_told c.args.names.now c.args.entries.now c.args.memo.now c.args.index c.in-Some.kind c.requires.memo (sym c.in-Some.ensures)

pub returns-in-Some-clause-names : goal.returns-in-Some-clause-names
returns-in-Some-clause-names c = element_interned c.args.names.now c.args.entries.now c.args.memo.now c.args.index c.in-Some.kind c.requires.memo (sym c.in-Some.ensures)

pub keep_element-requires : goal.keep_element-requires
keep_element-requires c =
    place_within _ c.args.entries.now c.args.memo.now.elements.items c.args.index c.requires.memo.elements
    (passes-is_some (is_entry_text is_array_text) (text_at c.args.entries.now c.args.index) c.requires.class)

pub returns-clause-memo : goal.returns-clause-memo
returns-clause-memo c =
    element_noted c.args.names.now c.read_element_at.new.names c.args.entries.now c.args.memo.now c.keep_element.new.memo c.args.index
    c.requires.memo (passes-is_some (is_entry_text is_array_text) (text_at c.args.entries.now c.args.index) c.requires.class)
    c.in_ok-kind.kind c.in_ok-kind.ensures.names c.in_ok-kind.ensures.kind c.keep_element.ensures.elements c.keep_element.ensures.numbers c.keep_element.ensures.kinds c.keep_element.ensures.descrs
