use Rattle.std.proofs.Common.{ap, sym, ◌∙◌}
use Rattle.fp_hier.specs.Receivers.{is_marked}
use Rattle.fp_hier.proofs.ReceiverNames.{marked-listed, marked-passed}
use Rattle.fp_hier.proofs.receivers.Receivers.of_row.Goals as goal
use Rattle.fp_hier.proofs.receivers.Receivers.of_row.Goals.{then-is_marked+in_ok-push, else-is_marked}

pub loop-class-preserved : goal.loop-class-preserved
loop-class-preserved c =
    let f = is_marked c.args.set.now c.args.self.now c.args.row in
    elim c.if-is_marked.branch [
      | then-is_marked+in_ok-push w ↦
          marked-listed f c.loop-class.class c.loop-class.ids.items c.if-is_marked.ids.items (sym c.is_marked.ensures ∙ w.if-is_marked.true) c.loop-class.invariant (ap (λ v. v.items) w.ids-is ∙ w.in_ok-push.ensures.items)
      | else-is_marked w ↦
          ap (λ v. v.items) w.ids-is ∙ marked-passed f c.loop-class.class c.loop-class.ids.items (sym c.is_marked.ensures ∙ w.if-is_marked.false) c.loop-class.invariant
    ]
