use Rattle.std.proofs.Common.{◌≡◌, ◌+◌, ◌*◌, ◌-◌, [], ◌∷◌}
use Rattle.fp_model.specs.Branches.{far_target, far_targets}
use Rattle.fp_model.specs.Instructions.{places_after}
use Rattle.fp_ops.proofs.jumps.places.Given as goal

-- what is left leads where the whole does
abbrev pub invariant-loop-left : goal.invariant-loop-left
invariant-loop-left l = record {
  at : l.at ≡ 12 + l.step * l._left;
  rest : places_after l.to.items (far_targets l.pc l.step l.args (l.count - l._left) l.at) ≡ places_after [] (far_target l.pc l.args 0 ∷ far_targets l.pc l.step l.args l.count 12);
}
