use Rattle.std.proofs.Common.{◌≡◌, map, take}
use Rattle.fp_origin.specs.Groups.{transfer_of}
use Rattle.fp_origin.proofs.group.transfers.transfers.Given as goal

abbrev pub invariant-loop-entry : goal.invariant-loop-entry
invariant-loop-entry l = l.transfers.items ≡ map (transfer_of l.group) (take l.entry-index l.entry-items)
