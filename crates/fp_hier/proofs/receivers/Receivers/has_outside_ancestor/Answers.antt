use Rattle.std.proofs.Common.{◌+◌, arith, ◌∙◌}
use Rattle.fp_hier.proofs.ReceiverNames.{outside-told}
use Rattle.fp_hier.proofs.receivers.Receivers.has_outside_ancestor.Goals as goal

pub returns : goal.returns
returns c = λ k at.
    c.has.ensures ∙ outside-told c.args.set.now c.args.self.now c.requires.rows (c.counts-classes.result.0 + 0) c.args.class k at (omega (arith, c.counts-classes.ensures.classes))
