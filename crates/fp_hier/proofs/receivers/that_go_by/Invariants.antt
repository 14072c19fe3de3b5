use Rattle.std.proofs.Common.{◌≡◌, filter, take}
use Rattle.fp_hier.specs.Receivers.{fits_at}
use Rattle.fp_hier.proofs.receivers.that_go_by.Given as goal

abbrev pub invariant-loop-class : goal.invariant-loop-class
invariant-loop-class l = l.ids.items ≡ filter (fits_at l.set.classes l.name) (take l.class-index l.classes)
