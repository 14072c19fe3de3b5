use Rattle.std.proofs.Common.{◌≡◌, ◌++◌, drop}
use Rattle.fp_facts.specs.Behaviour.{accesses_of}
use Rattle.fp_facts.specs.Steps.{steps_of}
use Rattle.fp_extract.proofs.access.accesses.Given as goal

abbrev pub invariant-loop-at : goal.invariant-loop-at
invariant-loop-at l = l.accesses.items ++ accesses_of l.set.classes (steps_of (drop l.at l.instrs) (drop l.at l.frames)) ≡ accesses_of l.set.classes (steps_of l.instrs l.frames)
