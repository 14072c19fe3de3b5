use Rattle.std.proofs.Common.{◌≡◌, ◌++◌, map, take}
use Rattle.fp_facts.specs.Transfer as transfer
use Rattle.fp_flow.proofs.words.shuffled.Given as goal

abbrev pub invariant-loop-depth : goal.invariant-loop-depth
invariant-loop-depth g l = l.moved.items ≡ l.initial.moved.items ++ map (transfer.at_depth l.none l.stack) (take l.depth-index l.depth-items)
