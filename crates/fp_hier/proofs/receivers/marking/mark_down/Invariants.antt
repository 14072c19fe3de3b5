-- What was marked is so still.
use Rattle.std.proofs.Common.{◌≡◌, ℕ, false, true}
use Rattle.std.specs.Prelude.{slice_index_or}
use Rattle.fp_hier.specs.Marks.{AreMarked}
use Rattle.fp_hier.proofs.receivers.marking.mark_down.Given as goal

abbrev pub invariant-loop-at : goal.invariant-loop-at
invariant-loop-at l = record {
  marked : AreMarked l.set l.marked.items l.rows;
  kept : (k : ℕ) → slice_index_or l.fn.marked.items k false ≡ true → slice_index_or l.marked.items k false ≡ true;
}
