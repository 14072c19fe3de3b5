use Rattle.fp_base.specs.Files.{texts}
use Rattle.fp_system.proofs.TextLemmas.{parts_known}
use Rattle.fp_system.proofs.words.shown.ShownItems.index.Goals as goal

pub invariant_of-result : goal.invariant_of-result
invariant_of-result c = record { known = parts_known c.in_ok-items.items.texts c.in_ok-first_parts.first_parts (texts c.args.show.now) c.in_ok-items.ensures c.in_ok-first_parts.ensures }
