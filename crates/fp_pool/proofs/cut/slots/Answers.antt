use Rattle.std.proofs.Common.{sym, ◌∙◌, subst, arith}
use Rattle.std.proofs.lemmas.Result.{err_from_is_err_and}
use Rattle.fp_model.specs.Reading.{Fails}
use Rattle.fp_pool.proofs.Slots.{slots-next, slots-end, slots-fail}
use Rattle.fp_pool.proofs.cut.slots.Goals as goal

pub loop-index-preserved : goal.loop-index-preserved
loop-index-preserved c =
    rw (c.in_ok-push.ensures.items, c.is_wide-empty.ensures)
    (sym (slots-next c.args.count c.loop-index.index c.loop-index.next c.loop-index.entries.items c.loop-index.empty c.args.bytes.now (c.in_ok-entry.entry, c.in_ok-entry.end) (omega arith) c.in_ok-entry.ensures)
    ∙ c.loop-index.invariant)

pub returns : goal.returns
returns c =
    rw c.from_vec.ensures
    (sym c.loop-index.invariant
    ∙ slots-end c.args.count c.loop-index.index c.loop-index.next c.loop-index.entries.items c.loop-index.empty c.args.bytes.now (omega arith))

pub returns-in_err-entry : goal.returns-in_err-entry
returns-in_err-entry c =
    let p = err_from_is_err_and c.from_residual.result c.from_residual.ensures.1 in
    rw (p.1, p.2)
    (subst (λ read. Fails c.in_err-entry.field-0.0 read) c.loop-index.invariant
    (slots-fail c.in_err-entry.field-0.0 c.args.count c.loop-index.index c.loop-index.next c.loop-index.entries.items c.loop-index.empty c.args.bytes.now (omega arith) c.in_err-entry.ensures))
