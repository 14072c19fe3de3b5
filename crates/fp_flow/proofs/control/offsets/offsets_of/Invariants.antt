use Rattle.std.proofs.Common.{◌≡◌, map, take}
use Rattle.fp_flow.proofs.control.offsets.offsets_of.Given as goal

abbrev pub invariant-loop-pc : goal.invariant-loop-pc
invariant-loop-pc l = l.pcs.items ≡ map (λ i. i.0) (take l.pc-index l.pc-items)
