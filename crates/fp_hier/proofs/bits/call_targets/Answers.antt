use Rattle.std.proofs.Common.{IfOk, subst}
use Rattle.fp_hier.specs.Bits.{AreToldTargets, as_candidates}
use Rattle.fp_hier.proofs.ToldCalls.{calls-told}
use Rattle.fp_hier.proofs.bits.call_targets.Goals as goal

pub returns : goal.returns
returns c =
    calls-told c.args.always c.args.by_class.items c.told_targets.result
    (subst (λ told. IfOk c.told_targets.result (AreToldTargets (as_candidates c.args.always told))) c.as_slice.ensures.value c.told_targets.ensures)
