use Rattle.std.proofs.Common.{◌≡◌, ◌++◌, drop}
use Rattle.fp_facts.specs.Behaviour.{argument_sets}
use Rattle.fp_extract.proofs.arguments.push_arguments.Given as goal

abbrev pub invariant-loop-kind : goal.invariant-loop-kind
invariant-loop-kind l = l.sets.items ++ argument_sets (drop l.kind-index l.kinds) l.rest ≡ l.fn.sets.items ++ argument_sets l.kinds l.words
