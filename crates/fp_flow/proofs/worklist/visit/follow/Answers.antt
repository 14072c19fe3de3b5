use Rattle.std.proofs.Common.{◌<◌, length, ap, ◌∙◌, arith}
use Rattle.std.proofs.lemmas.List.{get_or_read}
use Rattle.fp_flow.proofs.Visits.{sent-caught, sent-on}
use Rattle.fp_flow.proofs.worklist.visit.follow.Goals as goal

pub arrive-requires-clause-carried : goal.arrive-requires-clause-carried
arrive-requires-clause-carried g c =
    let d = g.D.Dataflow.problem c.args.problem.now in
    sent-on d (g.D.Dataflow.lawful c.args.problem.now) c.args.edge _ c.args.behind.now c.if-not-edge.true c.requires.behind

pub arrive-requires-2-clause-carried : goal.arrive-requires-2-clause-carried
arrive-requires-2-clause-carried g c =
    let d = g.D.Dataflow.problem c.args.problem.now in
    let xs = c.args.found.now.items in
    let edge = c.args.edge in
    let from : edge.0 < length xs = omega (arith, c.requires.from, c.requires.long) in
    sent-caught d (g.D.Dataflow.lawful c.args.problem.now) edge _ c.in_ok-caught.caught c.if-not-edge.false c.in_ok-caught.ensures
    ∙ ap (λ x. d.carry edge x) (get_or_read xs edge.0 _ from c.index.ensures d.bottom)
