use Rattle.std.proofs.Common.{◌<◌, length, refl, arith, rules}
use Rattle.std.proofs.lemmas.List.{get_or_read}
use Rattle.fp_flow.proofs.Visits.{followed-changed}
use Rattle.fp_flow.proofs.worklist.visit.arrive.Goals as goal

pub returns-clause-followed : goal.returns-clause-followed
returns-clause-followed g c =
    let d = g.D.Dataflow.problem c.args.problem.now in
    let xs = c.args.found.now.items in
    let edge = c.args.edge in
    let to : edge.1 < length xs = omega (arith, c.requires.to, c.requires.long) in
    followed-changed d (g.D.Dataflow.lawful c.args.problem.now) edge xs _ c.args.work.now.nodes.items c.add.new.self.nodes.items _ c.args.carried.now c.index_mut.result.now c.join.new.into
    to c.requires.long c.requires.fits
    refl c.requires.carried (get_or_read xs edge.1 _ to c.index_mut.ensures.value d.bottom)
    c.in_ok-join.ensures.value (c.in_ok-join.ensures.changed (search rules)) refl
    c.in_ok-add.ensures.kept c.in_ok-add.ensures.listed c.in_ok-add.ensures.one
