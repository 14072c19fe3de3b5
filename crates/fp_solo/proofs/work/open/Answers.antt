use Rattle.std.proofs.Common.{◌<◌, slice_index, subst}
use Rattle.fp_eqs.specs.Solved.{flag_at}
use Rattle.fp_solo.specs.Recorded.{is_read}
use Rattle.fp_solo.proofs.QuestionLemmas.{flag-inside}
use Rattle.fp_solo.proofs.SolvingLemmas.{solving-start}
use Rattle.fp_solo.proofs.work.open.Goals as goal

pub returns-clause-solving : goal.returns-clause-solving
returns-clause-solving g c =
    let e = g.S.System.equations c.args.system.now.system in
    let agenda = c.in_ok-agenda.agenda in
    let told = c.in_ok-agenda.ensures in
    solving-start e (g.S.System.monotone c.args.system.now.system) (slice_index c.in_ok-values.values.items) (flag_at agenda.wanted.items) (flag_at agenda.started.items) (flag_at agenda.due.flags.items)
    (is_read c.in_ok-reads.reads.links) c.in_ok-values.ensures.fixed told.shown told.only told.starts (λ t on. subst (λ k. t < k) told.agenda.started (flag-inside agenda.started.items t on)) told.due c.in_ok-reads.ensures.none
