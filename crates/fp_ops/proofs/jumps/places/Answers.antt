use Rattle.std.proofs.Common.{◌≡◌, ◌+◌, ◌-◌, [], Some, None, ◌∙◌, sym, ap, arith}
use Rattle.fp_model.specs.Branches.{far_target, far_targets}
use Rattle.fp_model.specs.Instructions.{places_after, short_place}
use Rattle.fp_ops.proofs.Places.{places_next, places_none, places_end}
use Rattle.fp_ops.proofs.Walking.{far_targets-next, far_targets-end}
use Rattle.fp_ops.proofs.jumps.places.Goals as goal

pub returns-in_default : goal.returns-in_default
returns-in_default c =
    let none : short_place (far_target c.args.pc c.args.args.now 0) ≡ None = cc in
    sym (places_none [] (far_target c.args.pc c.args.args.now 0) (far_targets c.args.pc c.args.step c.args.args.now c.args.count 12) none)

pub loop-left-init : goal.loop-left-init
loop-left-init c =
    let some : short_place (far_target c.args.pc c.args.args.now 0) ≡ Some c.in-Some.default = cc in
    let all : c.args.count - 0 ≡ c.args.count = omega arith in
    record {
      at = omega arith;
      rest = rw (c.in_ok-push.ensures.items, all, c.in_ok-to.ensures.items) (sym (places_next [] (far_target c.args.pc c.args.args.now 0) (far_targets c.args.pc c.args.step c.args.args.now c.args.count 12) c.in-Some.default some));
    }

pub returns-in_default-short : goal.returns-in_default-short
returns-in_default-short c =
    let none : short_place (far_target c.args.pc c.args.args.now c.loop-left.at) ≡ None = cc in
    sym (sym c.loop-left.invariant.rest
    ∙ ap (places_after c.loop-left.to.items) (far_targets-next c.args.pc c.args.step c.args.args.now c.args.count c.loop-left._left c.loop-left.at c.loop-left-test.true)
    ∙ places_none c.loop-left.to.items (far_target c.args.pc c.args.args.now c.loop-left.at) _ none)

pub loop-left-preserved : goal.loop-left-preserved
loop-left-preserved c =
    let some : short_place (far_target c.args.pc c.args.args.now c.loop-left.at) ≡ Some c.in-Some-short.place = cc in
    record {
      at = grind arith;
      rest = rw c.in_ok-push-2.ensures.items (sym (ap (places_after c.loop-left.to.items) (far_targets-next c.args.pc c.args.step c.args.args.now c.args.count c.loop-left._left c.loop-left.at c.loop-left-test.true)
          ∙ places_next c.loop-left.to.items (far_target c.args.pc c.args.args.now c.loop-left.at) (far_targets c.args.pc c.args.step c.args.args.now (c.args.count - (c.loop-left._left + 1)) (c.loop-left.at + c.args.step)) c.in-Some-short.place some) ∙ c.loop-left.invariant.rest);
    }

pub returns : goal.returns
returns c =
    rw c.from_vec.ensures (sym (sym c.loop-left.invariant.rest
    ∙ ap (places_after c.loop-left.to.items) (far_targets-end c.args.pc c.args.step c.args.args.now c.args.count c.loop-left._left c.loop-left.at (omega arith))
    ∙ places_end c.loop-left.to.items))
