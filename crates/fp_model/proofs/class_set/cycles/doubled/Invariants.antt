-- Where twice as many steps lead from the numbers so far.
use Rattle.std.proofs.Common.{◌≡◌, None, map, take, slice_index_or, option_and_then}
use Rattle.fp_model.proofs.class_set.cycles.doubled.Given as goal

abbrev pub invariant-loop-to : goal.invariant-loop-to
invariant-loop-to l = l.further.items ≡ map (λ to. option_and_then (λ id. slice_index_or l.reached id None) to) (take l.to-index l.reached)
