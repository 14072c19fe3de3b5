use Rattle.std.proofs.Common.{◌≡◌, ℕ, get_or, length}
use Rattle.fp_solo.proofs.record.zeros.Given as goal

abbrev pub invariant-loop : goal.invariant-loop
invariant-loop l = record {
  long : length l.numbers.items ≡ l.counter;
  zeros : (i : ℕ) → get_or l.numbers.items i 0 ≡ 0;
}
