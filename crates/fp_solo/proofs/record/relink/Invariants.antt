use Rattle.std.proofs.Common.{◌≡◌, ◌≤◌, ◌+◌, ◌==◌, ℕ, length, take, if◌then◌else◌}
use Rattle.fp_eqs.specs.Answers.{asked}
use Rattle.fp_solo.specs.Recorded.{is_read}
use Rattle.fp_solo.proofs.record.relink.Given as goal

abbrev pub invariant-loop-place : goal.invariant-loop-place
invariant-loop-place l = record {
  places : length l.fn.links.rows ≤ length l.links.rows;
  tasks : l.fn.links.tasks ≤ l.links.tasks;
  room : length l.answers ≤ l.links.spare + l.place-index;
  reads : (t p : ℕ) → is_read l.links t p ≡ (if t == l.task then asked (take l.place-index l.answers) p else is_read l.fn.links t p);
}
