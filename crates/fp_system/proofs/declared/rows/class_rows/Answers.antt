use Rattle.std.proofs.Common.{◌∷◌, [], ◌++◌, map, ap, sym, ◌∙◌, zero-add}
use Rattle.std.proofs.lemmas.List.FromFn.{map-range_with_len_more}
use Rattle.std.specs.List.{range_with_len}
use Rattle.fp_system.specs.ClassEquations.{class_task}
use Rattle.fp_system.proofs.declared.rows.class_rows.Goals as goal

pub loop-id-preserved : goal.loop-id-preserved
loop-id-preserved c =
    let row = class_task c.args.set.now c.args.cells.now in
    c.in_ok-push.ensures.items ∙ ap (λ v. v ++ c.class_row.result ∷ []) c.loop-id.invariant
    ∙ ap (λ v. map row (range_with_len 0 c.loop-id.id) ++ v ∷ []) c.class_row.ensures
    ∙ sym (map-range_with_len_more row 0 c.loop-id.id c.loop-id.id (zero-add c.loop-id.id))
