use Rattle.std.proofs.Common.{◌≡◌, ◌++◌, map, take}
use Rattle.fp_rta.specs.Meaning.{site_row}
use Rattle.fp_rta.proofs.sites.push_sites.Given as goal

abbrev pub invariant-loop-call : goal.invariant-loop-call
invariant-loop-call l = l.sites.items ≡ l.initial.sites.items ++ map (site_row l.cells l.method) (take l.call-index l.calls)
