use Rattle.fp_base.proofs.NameSetLemmas.{map-inserted}
use Rattle.fp_base.proofs.names.add_new.Goals as goal

pub returns-clause-ok : goal.returns-clause-ok
returns-clause-ok c = map-inserted (λ name. name.items) _ _ _ _ c.in_ok-copy.ensures.items c.requires c.in_ok-insert.ensures.keys
