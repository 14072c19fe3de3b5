-- The counts are those of the classes so far.
use Rattle.std.proofs.Common.{◌≡◌, ℕ, ◌<◌, ◌==◌, length, get_or, take, count_by}
use Rattle.fp_model.proofs.class_set.duplicates.count_names.Given as goal

abbrev pub invariant-loop-class : goal.invariant-loop-class
invariant-loop-class l =
    (length l.counts.items ≡ length l.names) × ((k : ℕ) → k < length l.names → get_or l.counts.items k 0 ≡ count_by (λ c. c.name == k) (take l.class-index l.classes))
