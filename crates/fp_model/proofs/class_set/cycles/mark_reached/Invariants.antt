-- Those that are reached from the numbers so far are marked.
use Rattle.std.proofs.Common.{◌≡◌, ℕ, ◌<◌, false, length, get_or, take}
use Rattle.std.specs.List.{list_any}
use Rattle.fp_model.specs.ClassSet.{is_number}
use Rattle.fp_model.proofs.class_set.cycles.mark_reached.Given as goal

abbrev pub invariant-loop-to : goal.invariant-loop-to
invariant-loop-to l =
    (length l.marks.items ≡ length l.reached) × ((k : ℕ) → k < length l.reached → get_or l.marks.items k false ≡ list_any (is_number k) (take l.to-index l.reached))
