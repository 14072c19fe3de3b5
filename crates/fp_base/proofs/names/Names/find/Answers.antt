use Rattle.std.proofs.Common.{sym}
use Rattle.fp_base.proofs.NameSetLemmas.{has_name-map, slice_get-position}
use Rattle.fp_base.proofs.names.Names.find.Goals as goal

pub returns-in_err-index-clause-found : goal.returns-in_err-index-clause-found
returns-in_err-index-clause-found c = rw (c.from_residual.ensures, ← c.self.view_is, has_name-map) c.in_err-index.ensures.found

pub returns-clause-found : goal.returns-clause-found
returns-clause-found c = rw (← c.self.view_is, has_name-map) c.in_ok-index.ensures.found

pub returns-clause-number : goal.returns-clause-number
returns-clause-number c = rw (← c.self.view_is) (slice_get-position _ _ _ _ (sym c.in_ok-index.ensures.index))
