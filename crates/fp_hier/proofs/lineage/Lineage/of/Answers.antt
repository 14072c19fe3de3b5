use Rattle.std.proofs.Common.{◌+◌, arith}
use Rattle.fp_hier.proofs.Lineages.{up}
use Rattle.fp_hier.proofs.lineage.Lineage.of.Goals as goal

pub returns-clause-rest : goal.returns-clause-rest
returns-clause-rest c =
    up c.args.set.now c.args.class (c.counts-classes.result.0 + 1) c.counts-classes.ensures.set c.requires (omega (arith, c.counts-classes.ensures.classes))
