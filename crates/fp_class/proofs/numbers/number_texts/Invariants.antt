use Rattle.fp_class.proofs.Numberings.{IsNumberedTo}
use Rattle.fp_class.proofs.numbers.number_texts.Given as goal

abbrev pub invariant-loop-entry : goal.invariant-loop-entry
invariant-loop-entry l = IsNumberedTo l.names l.entries l.numbers.items l.entry-index
