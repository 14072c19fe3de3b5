use Rattle.std.proofs.Common.{◌≡◌, ◌++◌, take}
use Rattle.fp_rta.specs.Places.{inst_places}
use Rattle.fp_rta.proofs.places.push_inst_places.Given as goal

abbrev pub invariant-loop-class : goal.invariant-loop-class
invariant-loop-class l = l.places.items ≡ l.initial.places.items ++ inst_places l.cells (take l.class-index l.classes)
