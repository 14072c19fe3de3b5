use Rattle.std.proofs.Common.{◌≡◌, ◌++◌, take}
use Rattle.fp_facts.specs.Sorts as words
use Rattle.fp_flow.proofs.sorts.push_kinds.Given as goal

abbrev pub invariant-loop-kind : goal.invariant-loop-kind
invariant-loop-kind l = l.to.items ≡ l.initial.to.items ++ words.words_of_kinds (take l.kind-index l.kinds)
