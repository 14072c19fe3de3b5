use Rattle.std.proofs.Common.{sym, ◌∙◌}
use Rattle.fp_class.proofs.Seen.{new_key, new_without_text, one_seen}
use Rattle.fp_class.proofs.members.see_member.Goals as goal

pub returns-in_ok-insert-in-Some-clause-new : goal.returns-in_ok-insert-in-Some-clause-new
returns-in_ok-insert-in-Some-clause-new c =
    new_key c.args.entries.now c.args.texts.now.numbers.items c.requires.texts.numbers c.args.name c.args.descr c.in-Some.key c.args.before.now _ _ (sym c.key_at.ensures ∙ c.in-Some.is) c.requires.before c.in_ok-insert-in-Some.ensures.added (c.requires.seen c.in-Some.key)

pub returns-in_ok-insert-in-Some-clause-seen : goal.returns-in_ok-insert-in-Some-clause-seen
returns-in_ok-insert-in-Some-clause-seen c = λ member q new named described texts.
    one_seen c.args.entries.now c.args.texts.now.numbers.items c.requires.texts.numbers c.args.name c.args.descr c.in-Some.key q c.args.before.now member _ _ (sym c.key_at.ensures ∙ c.in-Some.is) named described (c.requires.seen q) (c.in_ok-insert-in-Some.ensures.updates.0 q)

pub returns-in-None-clause-new : goal.returns-in-None-clause-new
returns-in-None-clause-new c =
    new_without_text c.args.entries.now c.args.texts.now.numbers.items c.args.name c.args.descr c.args.before.now (sym c.key_at.ensures ∙ c.in-None.is)
