use Rattle.std.proofs.Common.{ap, length, sym}
use Rattle.fp_origin.proofs.Chosen.{chosen-zero}
use Rattle.fp_origin.proofs.search.room.chosen_count.Goals as goal

pub returns-then-word-eq0 : goal.returns-then-word-eq0
returns-then-word-eq0 c = sym (ap length (chosen-zero c.args.group.now c.args.word c.if-word-eq0.true))
