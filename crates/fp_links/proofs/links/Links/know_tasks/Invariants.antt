use Rattle.std.proofs.Common.{◌≡◌, ◌≤◌, ◌-◌}
use Rattle.fp_links.proofs.links.Links.know_tasks.Given as goal

abbrev pub invariant-loop-self : goal.invariant-loop-self
invariant-loop-self l = record { rows : l.self.rows ≡ l.initial.self.rows; spare : l.self.spare ≡ l.initial.self.spare; kept : l.initial.self.tasks ≤ l.self.tasks }

abbrev pub decreases-loop-self : goal.decreases-loop-self
decreases-loop-self l = l.tasks - l.self.tasks
