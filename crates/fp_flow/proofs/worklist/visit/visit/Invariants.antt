use Rattle.std.proofs.Common.{◌≡◌, ◌≤◌, false, length}
use Rattle.fp_facts.specs.Dataflow.{labels}
use Rattle.fp_flow.specs.Sent.{IsSent}
use Rattle.fp_flow.specs.Working.{IsWorking, work_left}
use Rattle.fp_flow.proofs.worklist.visit.visit.Given as goal

abbrev pub invariant-loop-place : goal.invariant-loop-place
invariant-loop-place g l =
    let d = g.D.Dataflow.problem l.problem in
    record {
      count : length l.work.waiting.items ≡ d.nodes;
      working : IsWorking d l.found.items l.work.nodes.items l.node l.place;
      less : work_left d l.found.items l.work.nodes.items ≤ work_left d l.initial.found.items l.initial.work.nodes.items;
      sent : IsSent d false l.node (labels d l.found.items l.node) l.behind;
    }
