use Rattle.fp_hier.proofs.MarkedRows.{inherited-marks}
use Rattle.fp_hier.proofs.receivers.marking.mark_unmarked.Goals as goal

pub returns-in-Some : goal.returns-in-Some
returns-in-Some c = λ d at.
    inherited-marks c.args.set.now c.args.class c.in-Some.above d c.args.marked.now.items c.args.rows.now c.join.new.self c.mark_own.new.rows c.marked_superclass.ensures.set at c.in-Some.ensures.above c.in-Some.ensures.known
    c.requires.marked c.in-Some.ensures.marked c.join.ensures (c.mark_own.ensures d at)
