-- The classes so far are marked.
use Rattle.std.proofs.Common.{◌≡◌, ◌<◌, ℕ, false, true}
use Rattle.std.specs.Prelude.{slice_index_or}
use Rattle.fp_hier.specs.Marks.{AreMarked}
use Rattle.fp_hier.proofs.receivers.marking.marked_rows.Given as goal

abbrev pub invariant-loop-class : goal.invariant-loop-class
invariant-loop-class l = record {
  marked : AreMarked l.set l.marked.items l.rows;
  all : (k : ℕ) → k < l.class → slice_index_or l.marked.items k false ≡ true;
}
