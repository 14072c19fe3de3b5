use Rattle.std.proofs.Common.{◌≡◌, ◌++◌, drop}
use Rattle.fp_facts.specs.Steps.{steps_of}
use Rattle.fp_extract.specs.Begun.{initialised_of}
use Rattle.fp_extract.proofs.begun.initialised.Given as goal

abbrev pub invariant-loop-at : goal.invariant-loop-at
invariant-loop-at l = l.classes.items ++ initialised_of l.set.classes (steps_of (drop l.at l.instrs) (drop l.at l.frames)) ≡ initialised_of l.set.classes (steps_of l.instrs l.frames)
