use Rattle.std.proofs.Common.{◌≡◌, ◌∷◌, replicate}
use Rattle.fp_facts.specs.declared.label.Label.TheVariants.{Unreached}
use Rattle.fp_flow.proofs.words.first_labels.Given as goal

abbrev pub invariant-loop : goal.invariant-loop
invariant-loop g l = l.labels.items ≡ l.fn.entry ∷ replicate l.counter Unreached
