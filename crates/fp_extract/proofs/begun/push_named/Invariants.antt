use Rattle.std.proofs.Common.{◌≡◌, ◌++◌, filter, take}
use Rattle.fp_facts.specs.Hierarchy.{classes_among}
use Rattle.fp_extract.specs.Begun.{is_flagged}
use Rattle.fp_extract.proofs.begun.push_named.Given as goal

abbrev pub invariant-loop-name : goal.invariant-loop-name
invariant-loop-name l = l.begun.items ≡ l.fn.begun.items ++ filter (is_flagged l.initialisers) (classes_among l.set.classes (take l.name-index l.names))
