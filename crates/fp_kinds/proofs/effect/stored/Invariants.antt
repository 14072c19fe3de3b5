use Rattle.std.proofs.Common.{◌≡◌, ◌++◌, drop}
use Rattle.fp_facts.specs.Transfer as transfer
use Rattle.fp_kinds.proofs.effect.stored.Given as goal

abbrev pub invariant-loop-place : goal.invariant-loop-place
invariant-loop-place l = transfer.stored_from l.sort l.at 0 l.locals ≡ l.stored.items ++ transfer.stored_from l.sort l.at l.place (drop l.place l.locals)
