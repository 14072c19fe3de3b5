use Rattle.std.proofs.Common.{◌≡◌, ◌<◌, ℕ, length, take}
use Rattle.fp_rta.specs.CallGraph.{setting}
use Rattle.fp_rta.specs.Listed.{places_at}
use Rattle.fp_rta.proofs.candidates.sources.Given as goal

abbrev pub invariant-loop-class : goal.invariant-loop-class
invariant-loop-class l = record {
  long : length l.lists.items ≡ l.count;
  lists : (b : ℕ) → b < l.count → places_at l.lists.items b ≡ setting l.cells b (take l.class-index l.watch);
}
