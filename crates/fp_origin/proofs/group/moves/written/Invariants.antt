use Rattle.std.proofs.Common.{◌≡◌, ◌-◌, ◌++◌, drop}
use Rattle.fp_facts.specs.Moves.{written_at}
use Rattle.fp_origin.proofs.group.moves.written.Given as goal

abbrev pub invariant-loop-place : goal.invariant-loop-place
invariant-loop-place l = written_at l.at l.words l.locals ≡ l.written.items ++ written_at (l.at - l.place) (drop (l.place - l.at) l.words) (drop l.place l.locals)
