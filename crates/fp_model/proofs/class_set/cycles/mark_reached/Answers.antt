-- All steps are looked at.
use Rattle.std.proofs.Common.{false, length, take_all, ap, ◌∙◌}
use Rattle.std.specs.List.{list_any}
use Rattle.std.proofs.lemmas.List.FromFn.{fill_by_all}
use Rattle.fp_model.specs.ClassSet.{is_number}
use Rattle.fp_model.proofs.class_set.cycles.mark_reached.Goals as goal

pub returns : goal.returns
returns c =
    fill_by_all (λ id. list_any (is_number id) c.args.reached.now) c.loop-to.marks.items (length c.args.reached.now) false c.loop-to.invariant.0
    (λ k within. c.loop-to.invariant.1 k within ∙ ap (list_any (is_number k)) (take_all c.loop-to.to-index c.args.reached.now c.loop-to-test.false))
