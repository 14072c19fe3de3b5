-- Steps from all classes at once.
use Rattle.std.proofs.Common.{◌≡◌, arith}
use Rattle.std.proofs.lemmas.Result.{IfOk-weaker}
use Rattle.fp_model.specs.ClassSet.{cycle_marks}
use Rattle.fp_model.proofs.Reaching.{reached-one, reached-within, reached-doubled, reached-marks}
use Rattle.fp_model.proofs.class_set.cycles.mark_cycles.Goals as goal

pub loop-steps-init : goal.loop-steps-init
loop-steps-init c = record {
  some = omega arith;
  reached = reached-one c.args.classes.now c.in_ok-reached.reached.items c.in_ok-reached.ensures;
}

pub loop-steps-preserved : goal.loop-steps-preserved
loop-steps-preserved c = record {
  some = omega arith;
  reached = reached-doubled c.args.classes.now c.loop-steps.steps c.loop-steps.reached.items c.as_slice.result.now c.in_ok-reached-2.reached.items c.as_slice.ensures.value c.loop-steps.invariant.reached c.in_ok-reached-2.ensures;
}

pub doubled-requires : goal.doubled-requires
doubled-requires c = reached-within c.args.classes.now c.loop-steps.steps c.loop-steps.reached.items c.as_slice.result.now c.as_slice.ensures.value c.loop-steps.invariant.reached

pub mark_reached-requires : goal.mark_reached-requires
mark_reached-requires c = reached-within c.args.classes.now c.loop-steps.steps c.loop-steps.reached.items c.as_slice-2.result.now c.as_slice-2.ensures.value c.loop-steps.invariant.reached

pub returns : goal.returns
returns c =
    IfOk-weaker c.mark_reached.result _ (λ marks. marks.items ≡ cycle_marks c.args.classes.now)
    (λ marks made. reached-marks c.args.classes.now c.loop-steps.steps c.loop-steps.reached.items c.as_slice-2.result.now marks.items c.as_slice-2.ensures.value c.loop-steps.invariant.reached (omega arith) c.loop-steps.invariant.some made)
    c.mark_reached.ensures
