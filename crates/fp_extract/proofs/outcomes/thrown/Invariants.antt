use Rattle.std.proofs.Common.{◌≡◌, ◌++◌, drop}
use Rattle.fp_facts.specs.Behaviour.{thrown_of}
use Rattle.fp_facts.specs.Steps.{steps_of}
use Rattle.fp_extract.proofs.outcomes.thrown.Given as goal

abbrev pub invariant-loop-at : goal.invariant-loop-at
invariant-loop-at l = l.sets.items ++ thrown_of (steps_of (drop l.at l.instrs) (drop l.at l.frames)) ≡ thrown_of (steps_of l.instrs l.frames)
