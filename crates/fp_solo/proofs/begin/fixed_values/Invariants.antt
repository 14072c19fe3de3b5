use Rattle.std.proofs.Common.{◌≡◌, ℕ, ◌<◌, get_or, length}
use Rattle.fp_solo.proofs.begin.fixed_values.Given as goal

abbrev pub invariant-loop-place : goal.invariant-loop-place
invariant-loop-place g l = record {
  long : length l.values.items ≡ l.place;
  fixed : (p : ℕ) → p < l.place → get_or l.values.items p 0 ≡ (g.S.System.equations l.system.system).fixed p;
}
