use Rattle.std.proofs.Common.{◌≤◌, arith}
use Rattle.fp_eqs.specs.Makers.{rank}
use Rattle.fp_eqs.proofs.MakerLemmas.{rank-below, rank-most}
use Rattle.fp_eqs.proofs.Needed.{later-both, maker-runs, makers-more}
use Rattle.fp_eqs.proofs.plain.wanted.start_makers.Goals as goal

pub returns-in_default-clause-started : goal.returns-in_default-clause-started
returns-in_default-clause-started g c t lt maker =
    let e = g.S.System.equations c.args.system.now in
    let none : rank e.task c.args.place e.tasks ≤ c.loop-k.k = c.in_default.ensures in
    c.loop-k.invariant.started t lt maker (omega (arith, none, rank-below e.task c.args.place t e.tasks lt maker))

pub start-requires-clause-runs : goal.start-requires-clause-runs
start-requires-clause-runs g c =
    let e = g.S.System.equations c.args.system.now in
    maker-runs e (g.S.System.monotone c.args.system.now) c.loop-k.needs c.args.place c.loop-k.k c.in-Some.task c.requires.place c.loop-k.invariant.needs
    (c.loop-k.invariant.later.wanted c.args.place c.requires.wanted) c.in-Some.ensures

pub loop-k-preserved : goal.loop-k-preserved
loop-k-preserved g c =
    let e = g.S.System.equations c.args.system.now in
    let told = c.in_ok-start.ensures in
    record {
      needs = told.needs;
      later = later-both c.args.needs.now c.loop-k.needs c.start.new.needs c.loop-k.invariant.later told.later;
      started = makers-more e.task e.tasks c.args.place c.loop-k.k c.in-Some.task c.loop-k.needs.started.items c.start.new.needs.started.items c.in-Some.ensures
          told.later.started told.started c.loop-k.invariant.started;
    }

pub returns-clause-started : goal.returns-clause-started
returns-clause-started g c t lt maker =
    let e = g.S.System.equations c.args.system.now in
    c.loop-k.invariant.started t lt maker (omega (arith, lt, rank-most e.task c.args.place t, c.loop-k-test.false, c.tasks-k-end.ensures))
