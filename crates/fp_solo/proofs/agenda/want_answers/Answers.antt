use Rattle.std.proofs.lemmas.List.Elements.{Contains-get_or}
use Rattle.fp_solo.proofs.agenda.want_answers.Goals as goal

pub want-requires-clause-place : goal.want-requires-clause-place
want-requires-clause-place g c = c.requires.places _ _ (Contains-get_or c.args.answers.now c.loop-place.place-index (0, 0) c.loop-place-test.true)
