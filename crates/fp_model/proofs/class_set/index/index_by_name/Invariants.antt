-- The index is that of the classes so far.
use Rattle.std.proofs.Common.{◌≡◌, ℕ, ◌<◌, length, get_or, take, None}
use Rattle.fp_model.specs.ClassSet.{class_named}
use Rattle.fp_model.proofs.class_set.index.index_by_name.Given as goal

abbrev pub invariant-loop-id : goal.invariant-loop-id
invariant-loop-id l =
    (length l.index.items ≡ length l.names) × ((k : ℕ) → k < length l.names → get_or l.index.items k None ≡ class_named (take l.id l.classes) k)
