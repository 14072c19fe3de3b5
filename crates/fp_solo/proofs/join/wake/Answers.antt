use Rattle.std.proofs.Common.{sym}
use Rattle.fp_links.specs.Linked.{row}
use Rattle.fp_links.proofs.RowLemmas.{task-has}
use Rattle.fp_solo.proofs.join.wake.Goals as goal

pub is_wide-requires : goal.is_wide-requires
is_wide-requires g c =
    let inside = c.loop-next.invariant.inside c.in-Some.edge c.in-Some.is in
    c.requires.reads.readers c.task_of-task.result c.args.place (task-has (row c.args.reads.now c.args.place) c.in-Some.edge c.task_of-task.result inside (sym (c.task_of-task.ensures c.args.place inside)))

pub mark-requires : goal.mark-requires
mark-requires g c =
    let inside = c.loop-next.invariant.inside c.in-Some.edge c.in-Some.is in
    let known = c.requires.reads.readers c.task_of-task.result c.args.place (task-has (row c.args.reads.now c.args.place) c.in-Some.edge c.task_of-task.result inside (sym (c.task_of-task.ensures c.args.place inside))) in
    rw c.loop-next.invariant.due.long known
