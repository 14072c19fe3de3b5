use Rattle.std.proofs.Common.{refl, arith}
use Rattle.std.proofs.lemmas.List.Folds.{list_any_more}
use Rattle.fp_hier.specs.Marks.{marks}
use Rattle.fp_hier.proofs.MarkedRows.{more-marks, no-marks}
use Rattle.fp_hier.proofs.receivers.marks.mark_names.Goals as goal

pub loop-name-init : goal.loop-name-init
loop-name-init c = no-marks c.args.class _ c.args.rows.now (λ row. refl)

pub loop-name-preserved : goal.loop-name-preserved
loop-name-preserved c =
    let at = c.loop-name.name-index in
    more-marks c.args.class _ _ _ _ _ _ c.loop-name.invariant c.mark_name.ensures
    (λ row within. list_any_more (marks c.args.set.now row) c.args.names.now at 0 (omega arith))
