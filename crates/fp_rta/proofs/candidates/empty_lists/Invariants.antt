use Rattle.std.proofs.Common.{◌≡◌, ℕ, [], length}
use Rattle.fp_rta.specs.Listed.{places_at}
use Rattle.fp_rta.proofs.candidates.empty_lists.Given as goal

abbrev pub invariant-loop-bit : goal.invariant-loop-bit
invariant-loop-bit l = record {
  long : length l.lists.items ≡ l._bit;
  lists : (b : ℕ) → places_at l.lists.items b ≡ [];
}
