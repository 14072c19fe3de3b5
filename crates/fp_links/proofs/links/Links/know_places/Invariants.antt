use Rattle.std.proofs.Common.{◌≡◌, ℕ, ◌≤◌, ◌-◌, length}
use Rattle.fp_links.specs.Linked.{row}
use Rattle.fp_links.proofs.links.Links.know_places.Given as goal

abbrev pub invariant-loop-self : goal.invariant-loop-self
invariant-loop-self l = record {
  rows : (q : ℕ) → row l.self q ≡ row l.initial.self q;
  tasks : l.self.tasks ≡ l.initial.self.tasks;
  spare : l.self.spare ≡ l.initial.self.spare;
  kept : length l.initial.self.rows ≤ length l.self.rows;
}

abbrev pub decreases-loop-self : goal.decreases-loop-self
decreases-loop-self l = l.places - length l.self.rows
