-- What was found passes the test, and each turn uses up a visit.
use Rattle.std.specs.List.{AllPass}
use Rattle.fp_base.specs.Files.{is_class_file, texts}
use Rattle.fp_base.specs.Host.{visits_left}
use Rattle.fp_base.proofs.host.walk.class_files.Given as goal

abbrev pub invariant-loop-dir : goal.invariant-loop-dir
invariant-loop-dir g l = AllPass (is_class_file l.root) (texts l.walk.found.items)

abbrev pub decreases-loop-dir : goal.decreases-loop-dir
decreases-loop-dir g l = visits_left l.walk
