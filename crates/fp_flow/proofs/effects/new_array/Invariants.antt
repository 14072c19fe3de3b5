use Rattle.std.proofs.Common.{◌≡◌, replicate}
use Rattle.fp_model.specs.declared.kind.Sort.TheVariants.{Int}
use Rattle.fp_flow.proofs.effects.new_array.Given as goal

abbrev pub invariant-loop : goal.invariant-loop
invariant-loop l = l.sizes.items ≡ replicate l.counter Int
