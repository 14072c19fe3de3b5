use Rattle.std.proofs.Common.{◌≡◌, ℕ, false, get_or, length}
use Rattle.fp_solo.proofs.due.unset.Given as goal

abbrev pub invariant-loop : goal.invariant-loop
invariant-loop l = record {
  long : length l.flags.items ≡ l.counter;
  unset : (i : ℕ) → get_or l.flags.items i false ≡ false;
}
