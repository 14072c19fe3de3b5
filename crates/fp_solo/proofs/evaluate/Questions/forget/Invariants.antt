use Rattle.std.proofs.Common.{◌≡◌, ◌<◌, ℕ, IsTrue, length}
use Rattle.fp_eqs.specs.Answers.{asked}
use Rattle.fp_eqs.specs.Solved.{flag_at}
use Rattle.fp_solo.proofs.evaluate.Questions.forget.Given as goal

abbrev pub invariant-loop-place : goal.invariant-loop-place
invariant-loop-place l = record {
  long : length l.self.seen.items ≡ length l.initial.self.seen.items;
  inside : (p : ℕ) → IsTrue (asked l.self.answers.items p) → p < length l.self.seen.items;
  seen : (p : ℕ) → IsTrue (flag_at l.self.seen.items p) → IsTrue (asked l.self.answers.items p);
}

abbrev pub decreases-loop-place : goal.decreases-loop-place
decreases-loop-place l = length l.self.answers.items
