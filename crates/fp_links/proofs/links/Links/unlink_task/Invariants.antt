use Rattle.std.proofs.Common.{◌≡◌, ◌+◌, map}
use Rattle.fp_links.specs.Linked.{edges_of, without_task}
use Rattle.fp_links.proofs.links.Links.unlink_task.Given as goal

abbrev pub invariant-loop : goal.invariant-loop
invariant-loop l = record {
  others : map (without_task l.task) l.self.rows ≡ map (without_task l.task) l.initial.self.rows;
  tasks : l.self.tasks ≡ l.initial.self.tasks;
  spare : l.self.spare + edges_of l.self l.task ≡ l.initial.self.spare + edges_of l.initial.self l.task;
}

abbrev pub decreases-loop : goal.decreases-loop
decreases-loop l = edges_of l.self l.task
