use Rattle.std.proofs.Common.{◌≡◌, ◌<◌, false, get_or, length, refl, sym, ◌∙◌, arith}
use Rattle.std.proofs.lemmas.List.{get_or_read}
use Rattle.fp_hier.proofs.MarkedRows.{class-marked}
use Rattle.fp_hier.proofs.SelectedTargets.{there}
use Rattle.fp_hier.proofs.receivers.marking.mark_class.Goals as goal

pub returns-clause-marked : goal.returns-clause-marked
returns-clause-marked c =
    let set = c.args.set.now in
    let marked = c.args.marked.now.items in
    let class = c.args.class in
    let at = there set.classes class c.requires.class in
    let within : class < length marked = omega (arith, c.requires.class, c.requires.marked.long) in
    let unmarked : get_or marked class false ≡ false = sym (get_or_read marked class c.index.result.now within c.index.ensures false) ∙ c.if-index.false in
    class-marked set class at.0 marked _ c.args.rows.now c.mark_unmarked.new.rows at.1 c.requires.marked unmarked (c.in_ok-mark_unmarked.ensures at.0 at.1) refl
