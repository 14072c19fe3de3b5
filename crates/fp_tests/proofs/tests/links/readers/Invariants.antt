use Rattle.std.proofs.Common.{◌≡◌, ℕ, Some, length, IsTrue}
use Rattle.fp_links.specs.Linked.{has_edge, rest_of, row}
use Rattle.fp_tests.proofs.tests.links.readers.Given as goal

abbrev pub invariant-loop-next : goal.invariant-loop-next
invariant-loop-next l = (e : ℕ) → l.next ≡ Some e → IsTrue (has_edge (row l.links l.place) e)

abbrev pub decreases-loop-next : goal.decreases-loop-next
decreases-loop-next l = length (rest_of (row l.links l.place) l.next)
