use Rattle.std.proofs.Common.{◌≡◌, filter, flat_map, take}
use Rattle.fp_facts.specs.Initialisation.{with_ancestors}
use Rattle.fp_extract.specs.Begun.{is_flagged}
use Rattle.fp_extract.proofs.begun.begun_from.Given as goal

abbrev pub invariant-loop-class : goal.invariant-loop-class
invariant-loop-class l = l.begun.items ≡ filter (is_flagged l.initialisers) (flat_map (with_ancestors l.set.classes) (take l.class-index l.classes))
