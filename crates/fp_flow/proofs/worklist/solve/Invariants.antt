use Rattle.std.proofs.Common.{◌≡◌, length}
use Rattle.fp_flow.specs.Working.{IsIndexed, IsWorking, work_left}
use Rattle.fp_flow.proofs.worklist.solve.Given as goal

abbrev pub invariant-loop-node : goal.invariant-loop-node
invariant-loop-node g l =
    let d = g.D.Dataflow.problem l.problem in
    record {
      indexed : IsIndexed l.edges d.nodes l.starts.items;
      count : length l.work.waiting.items ≡ d.nodes;
      working : IsWorking d l.found.items l.work.nodes.items 0 (length d.edges);
    }

abbrev pub decreases-loop-node : goal.decreases-loop-node
decreases-loop-node g l = work_left (g.D.Dataflow.problem l.problem) l.found.items l.work.nodes.items
