use Rattle.std.proofs.Common.{◌≡◌, take}
use Rattle.std.specs.List.{flat_map}
use Rattle.fp_rta.specs.Meaning.{site_rows}
use Rattle.fp_rta.proofs.sites.sites.Given as goal

abbrev pub invariant-loop-method : goal.invariant-loop-method
invariant-loop-method l = l.sites.items ≡ flat_map (site_rows l.cells) (take l.method-index l.methods)
