use Rattle.fp_flow.proofs.LeftWords.{AreLeft}
use Rattle.fp_flow.proofs.join.is_above.Given as goal

abbrev pub invariant-loop-at : goal.invariant-loop-at
invariant-loop-at g l = AreLeft g.W.Word.join l.words l.more l.at
