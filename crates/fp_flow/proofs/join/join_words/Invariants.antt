use Rattle.std.proofs.Common.{◌≡◌, ◌++◌, drop, take, length}
use Rattle.fp_facts.specs.Frames as frames
use Rattle.fp_flow.proofs.join.join_words.Given as goal

abbrev pub invariant-loop-at : goal.invariant-loop-at
invariant-loop-at g l =
    (length l.into ≡ length l.more)
    × (frames.join_words g.W.Word.join l.initial.into l.more
    ≡ take l.at l.into ++ frames.join_words g.W.Word.join (drop l.at l.into) (drop l.at l.more))
