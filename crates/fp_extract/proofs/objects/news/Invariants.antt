use Rattle.std.proofs.Common.{◌≡◌, ◌++◌, drop}
use Rattle.fp_facts.specs.Behaviour.{news_of}
use Rattle.fp_facts.specs.Steps.{steps_of}
use Rattle.fp_extract.proofs.objects.news.Given as goal

abbrev pub invariant-loop-at : goal.invariant-loop-at
invariant-loop-at l = l.news.items ++ news_of l.set.classes (steps_of (drop l.at l.instrs) (drop l.at l.frames)) ≡ news_of l.set.classes (steps_of l.instrs l.frames)
