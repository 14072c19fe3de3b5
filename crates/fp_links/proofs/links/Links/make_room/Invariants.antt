use Rattle.std.proofs.Common.{◌≡◌, ◌≤◌, ◌-◌}
use Rattle.fp_links.proofs.links.Links.make_room.Given as goal

abbrev pub invariant-loop-self : goal.invariant-loop-self
invariant-loop-self l = record { rows : l.self.rows ≡ l.initial.self.rows; tasks : l.self.tasks ≡ l.initial.self.tasks; kept : l.initial.self.spare ≤ l.self.spare }

abbrev pub decreases-loop-self : goal.decreases-loop-self
decreases-loop-self l = l.edges - l.self.spare
