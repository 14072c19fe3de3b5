use Rattle.fp_eqs.proofs.Flags.{none-found}
use Rattle.fp_eqs.proofs.plain.needs.Needs.new.Goals as goal

pub returns-clause-found : goal.returns-clause-found
returns-clause-found c = rw c.new.ensures.items (none-found c.in_ok-unset.field-0.items c.in_ok-unset.ensures.unset)
