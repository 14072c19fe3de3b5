use Rattle.std.proofs.Common.{◌≡◌, ◌++◌, replicate}
use Rattle.fp_flow.proofs.words.entry_label.Given as goal

abbrev pub invariant-loop : goal.invariant-loop
invariant-loop g l = l.locals.items ≡ l.arguments ++ replicate l.counter l.none
