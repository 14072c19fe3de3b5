use Rattle.std.proofs.Common.{◌≡◌, false, below_more, sym, ◌∙◌}
use Rattle.fp_kinds.specs.Kinds.{fails_by}
use Rattle.fp_kinds.proofs.inference.first_failing.Goals as goal

pub loop-number-preserved : goal.loop-number-preserved
loop-number-preserved c =
    below_more (λ k. fails_by c.args.code.now c.args.results.now c.args.labels.now k ≡ false) c.loop-number.number c.loop-number.invariant
    (sym c.in_ok-fails.ensures ∙ c.if-branch.false)
