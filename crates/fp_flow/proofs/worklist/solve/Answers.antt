use Rattle.std.proofs.Common.{◌≡◌, ◌∙◌, arith}
use Rattle.fp_flow.specs.Working.{IsIndexed, work_left}
use Rattle.fp_flow.proofs.Visits.{first-working, listed-taken, taken-working, taken-less, visited-working, worked_off}
use Rattle.fp_flow.proofs.worklist.solve.Goals as goal

pub loop-node-init : goal.loop-node-init
loop-node-init g c =
    let d = g.D.Dataflow.problem c.args.problem.now in
    let count : c.len-count.result ≡ d.nodes = omega (arith, c.len-count.ensures, c.args.first.ok.0, c.requires.long) in
    record {
      indexed = rw count at c.in_ok-starts.ensures;
      count = c.in_ok-work.ensures.count ∙ count;
      working = first-working d (g.D.Dataflow.lawful c.args.problem.now) c.args.first.items c.in_ok-work.work.nodes.items c.requires.long c.requires.first (λ n lt. c.in_ok-work.ensures.all n (omega arith));
    }

pub visit-requires-clause-node : goal.visit-requires-clause-node
visit-requires-clause-node g c = omega (arith, c.in-Some.ensures.some, c.loop-node.invariant.count)

pub visit-requires-clause-working : goal.visit-requires-clause-working
visit-requires-clause-working g c =
    let d = g.D.Dataflow.problem c.args.problem.now in
    taken-working d (g.D.Dataflow.lawful c.args.problem.now) c.args.edges.now c.loop-node.found.items c.loop-node.work.nodes.items c.pop.new.self.nodes.items c.deref.result.now c.in-Some.node c.requires.edges
    (rw c.deref.ensures.value c.loop-node.invariant.indexed) (omega (arith, c.in-Some.ensures.some, c.loop-node.invariant.count))
    (listed-taken c.loop-node.work.nodes.items c.pop.new.self.nodes.items c.in-Some.node c.in-Some.ensures.nodes) c.loop-node.invariant.working

pub loop-node-preserved : goal.loop-node-preserved
loop-node-preserved g c =
    let d = g.D.Dataflow.problem c.args.problem.now in
    let indexed : IsIndexed c.args.edges.now d.nodes c.deref.result.now = rw c.deref.ensures.value c.loop-node.invariant.indexed in
    record {
      indexed = c.loop-node.invariant.indexed;
      count = c.in_ok-visit.ensures.count;
      working = visited-working d (g.D.Dataflow.lawful c.args.problem.now) c.args.edges.now c.visit.new.found.items c.visit.new.work.nodes.items c.deref.result.now c.in-Some.node c.requires.edges
          (rw c.deref.ensures.value c.loop-node.invariant.indexed) (omega (arith, c.in-Some.ensures.some, c.loop-node.invariant.count)) c.in_ok-visit.ensures.working;
    }

pub loop-node-smaller : goal.loop-node-smaller
loop-node-smaller g c =
    let d = g.D.Dataflow.problem c.args.problem.now in
    let left = work_left d c.visit.new.found.items c.visit.new.work.nodes.items in
    taken-less d (g.D.Dataflow.lawful c.args.problem.now) c.loop-node.found.items c.loop-node.work.nodes.items c.pop.new.self.nodes.items c.in-Some.node left c.in-Some.ensures.nodes c.in_ok-visit.ensures.less

pub returns-clause-value : goal.returns-clause-value
returns-clause-value g c =
    let d = g.D.Dataflow.problem c.args.problem.now in
    worked_off d (g.D.Dataflow.lawful c.args.problem.now) c.loop-node.found.items c.loop-node.work.nodes.items 0 c.in_default.ensures.none c.loop-node.invariant.working
