-- What was found passes the test, and no entry adds more than one visit.
use Rattle.std.proofs.Common.{◌≤◌}
use Rattle.std.specs.List.{AllPass}
use Rattle.fp_base.specs.Files.{is_class_file, texts}
use Rattle.fp_base.specs.Host.{visits_left}
use Rattle.fp_base.proofs.host.walk.visit.Given as goal

abbrev pub invariant-loop-entry : goal.invariant-loop-entry
invariant-loop-entry g l =
    AllPass (is_class_file l.root) (texts l.walk.found.items) × (visits_left l.walk ≤ visits_left l.initial.walk)
