use Rattle.std.proofs.Common.{◌≡◌, ◌++◌, take}
use Rattle.fp_rta.specs.CallGraph.{initialisers}
use Rattle.fp_rta.specs.Places.{reach_places}
use Rattle.fp_rta.proofs.initialiser.push_initialisers.Given as goal

abbrev pub invariant-loop-class : goal.invariant-loop-class
invariant-loop-class l = l.places.items ≡ l.initial.places.items ++ reach_places l.cells (initialisers l.set (take l.class-index l.classes))
