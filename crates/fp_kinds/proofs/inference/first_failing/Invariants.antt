use Rattle.std.proofs.Common.{◌≡◌, ◌<◌, ℕ, false}
use Rattle.fp_kinds.specs.Kinds.{fails_by}
use Rattle.fp_kinds.proofs.inference.first_failing.Given as goal

abbrev pub invariant-loop-number : goal.invariant-loop-number
invariant-loop-number l = (other : ℕ) → other < l.number → fails_by l.code l.results l.labels other ≡ false
