use Rattle.std.proofs.Common.{refl}
use Rattle.fp_base.specs.Files.{texts}
use Rattle.fp_system.specs.Java.{java_cells}
use Rattle.fp_system.proofs.BuildLemmas.{items_same}
use Rattle.fp_system.proofs.build.check_run.Goals as goal

pub check_words-requires-clause-items : goal.check_words-requires-clause-items
check_words-requires-clause-items c =
    items_same c.args.set.now (java_cells c.args.set.now.classes) c.in_ok-items.items.items.texts c.in_ok-survey.survey.found (texts c.args.show.now) refl c.in_ok-items.ensures c.in_ok-survey.ensures.noted
