use Rattle.std.proofs.Common.{◌≡◌, ◌++◌, take}
use Rattle.fp_rta.specs.Places.{reach_places}
use Rattle.fp_rta.proofs.places.push_reach_places.Given as goal

abbrev pub invariant-loop-method : goal.invariant-loop-method
invariant-loop-method l = l.places.items ≡ l.initial.places.items ++ reach_places l.cells (take l.method-index l.methods)
