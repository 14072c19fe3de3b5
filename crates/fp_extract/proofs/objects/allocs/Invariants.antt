use Rattle.std.proofs.Common.{◌≡◌, ◌++◌, drop}
use Rattle.fp_facts.specs.Behaviour.{allocs_of}
use Rattle.fp_facts.specs.Steps.{steps_of}
use Rattle.fp_extract.proofs.objects.allocs.Given as goal

abbrev pub invariant-loop-at : goal.invariant-loop-at
invariant-loop-at l = l.pcs.items ++ allocs_of (steps_of (drop l.at l.instrs) (drop l.at l.frames)) ≡ allocs_of (steps_of l.instrs l.frames)
