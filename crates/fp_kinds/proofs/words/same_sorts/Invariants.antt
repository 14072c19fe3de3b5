use Rattle.std.proofs.Common.{◌≡◌, drop}
use Rattle.fp_facts.specs.Sorts as sorts
use Rattle.fp_kinds.proofs.words.same_sorts.Given as goal

abbrev pub invariant-loop-i : goal.invariant-loop-i
invariant-loop-i l = sorts.same_sorts l.a l.b ≡ sorts.same_sorts (drop l.i l.a) (drop l.i l.b)
