use Rattle.std.proofs.Common.{false, ap}
use Rattle.fp_facts.specs.Edges.{number_at}
use Rattle.fp_flow.proofs.Extending.{mapped-more}
use Rattle.fp_flow.proofs.control.push_branches.Goals as goal

pub loop-pc-preserved : goal.loop-pc-preserved
loop-pc-preserved c =
    mapped-more (λ pc. (c.args.from, number_at c.args.pcs.now pc, false)) c.args.edges.now.items c.loop-pc.edges.items c.push.new.self.items c.targets-pc-items.result.now c.loop-pc.pc-index 0
    (c.args.from, c.number_of.result, false) c.loop-pc-test.true c.loop-pc.invariant c.in_ok-push.ensures.items (ap (λ to. (c.args.from, to, false)) c.number_of.ensures)
