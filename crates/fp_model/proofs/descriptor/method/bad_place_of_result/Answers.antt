use Rattle.fp_model.proofs.MethodTypes.{result_others}
use Rattle.fp_model.proofs.descriptor.method.bad_place_of_result.Goals as goal

pub returns-then-text-ne86-clause-some : goal.returns-then-text-ne86-clause-some
returns-then-text-ne86-clause-some c = result_others c.args.text.now c.bad_place-then-text-ne86.result c.if-text-ne86.true c.bad_place-then-text-ne86.ensures.some
