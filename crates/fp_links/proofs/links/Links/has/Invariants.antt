use Rattle.std.proofs.Common.{◌≡◌, ℕ, Some, length, IsTrue}
use Rattle.fp_links.specs.Linked.{has_task, has_edge, rest_of, row}
use Rattle.fp_links.proofs.links.Links.has.Given as goal

abbrev pub invariant-loop-next : goal.invariant-loop-next
invariant-loop-next l = record {
  rest : has_task (rest_of (row l.self l.place) l.next) l.task ≡ has_task (row l.self l.place) l.task;
  inside : (e : ℕ) → l.next ≡ Some e → IsTrue (has_edge (row l.self l.place) e);
}

abbrev pub decreases-loop-next : goal.decreases-loop-next
decreases-loop-next l = length (rest_of (row l.self l.place) l.next)
