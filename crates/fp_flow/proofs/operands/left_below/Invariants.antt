use Rattle.std.proofs.Common.{◌≡◌, ◌+◌, drop, length}
use Rattle.fp_facts.specs.Sorts as words
use Rattle.fp_flow.proofs.operands.left_below.Given as goal

abbrev pub invariant-loop-kind : goal.invariant-loop-kind
invariant-loop-kind l = l.height + length (words.words_of_kinds (drop l.kind-index l.kinds)) ≡ l.left + length (words.words_of_kinds l.kinds)
