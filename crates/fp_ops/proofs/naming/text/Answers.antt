use Rattle.std.proofs.Common.{[], ◌∷◌, sym}
use Rattle.std.specs.Option.{unwrap_or}
use Rattle.fp_model.specs.Entries.{text_at}
use Rattle.fp_ops.proofs.Memos.{number_told, number_interned, number_noted, place_within}
use Rattle.fp_ops.proofs.naming.text.Goals as goal

pub returns-in-Some-clause-number : goal.returns-in-Some-clause-number
returns-in-Some-clause-number c = number_told c.args.names.now c.args.entries.now c.args.memo.now c.args.index c.in-Some.number c.requires.memo (sym c.in-Some.ensures)

pub returns-in-Some-clause-names : goal.returns-in-Some-clause-names
returns-in-Some-clause-names c = number_interned c.args.names.now c.args.entries.now c.args.memo.now c.args.index c.in-Some.number c.requires.memo (sym c.in-Some.ensures)

pub keep_number-requires : goal.keep_number-requires
keep_number-requires c = place_within _ c.args.entries.now c.args.memo.now.numbers.items c.args.index c.requires.memo.numbers c.requires.there

pub returns-clause-memo : goal.returns-clause-memo
returns-clause-memo c =
    number_noted c.args.names.now c.intern_text.new.names c.args.entries.now c.args.memo.now c.keep_number.new.memo c.args.index
    c.requires.memo c.requires.there (unwrap_or (text_at c.args.entries.now c.args.index) [] ∷ []) c.in_ok-number.number
    c.in_ok-number.ensures.names c.in_ok-number.ensures.number c.keep_number.ensures.numbers c.keep_number.ensures.kinds c.keep_number.ensures.elements c.keep_number.ensures.descrs
