use Rattle.std.proofs.Common.{◌≡◌, ◌||◌, ℕ, length, take}
use Rattle.fp_eqs.specs.Answers.{asked}
use Rattle.fp_eqs.specs.Needs.{AreFound, GoesOn}
use Rattle.fp_eqs.specs.Solved.{flag_at}
use Rattle.fp_eqs.proofs.plain.needs.Needs.want_asked.Given as goal

abbrev pub invariant-loop-place : goal.invariant-loop-place
invariant-loop-place l = record {
  long : length l.self.wanted.items ≡ length l.initial.self.wanted.items;
  marked : (p : ℕ) → flag_at l.self.wanted.items p ≡ (flag_at l.initial.self.wanted.items p || asked (take l.place-index l.answers) p);
  found : AreFound l.self.wanted.items l.self.found.items;
  goes_on : GoesOn l.initial.self.found.items l.self.found.items;
  started : l.self.started ≡ l.initial.self.started;
}
