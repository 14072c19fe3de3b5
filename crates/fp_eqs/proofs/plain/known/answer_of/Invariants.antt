use Rattle.std.proofs.Common.{◌≡◌, false, take}
use Rattle.fp_eqs.specs.Answers.{asked}
use Rattle.fp_eqs.proofs.plain.known.answer_of.Given as goal

abbrev pub invariant-loop-asked : goal.invariant-loop-asked
invariant-loop-asked l = asked (take l.asked-index l.answers) l.place ≡ false
