use Rattle.std.proofs.Common.{◌∙◌}
use Rattle.std.proofs.lemmas.Result.{err_from_is_err_and}
use Rattle.fp_origin.proofs.Outcome.{whole-known, whole-refused}
use Rattle.fp_origin.proofs.search.origins.Goals as goal

pub returns-in_err-gathered-clause-fault : goal.returns-in_err-gathered-clause-fault
returns-in_err-gathered-clause-fault c =
    let p = err_from_is_err_and c.from_residual-in_err-gathered.result c.from_residual-in_err-gathered.ensures.1 in
    rw (p.1, p.2)
    (whole-refused c.args.method.now c.args.code.now c.as_slice.result.now c.in_err-gathered.field-0.0 (c.as_slice.ensures.value ∙ c.in_ok-all.ensures) c.in_err-gathered.ensures.fault)

pub returns-clause-origins : goal.returns-clause-origins
returns-clause-origins c =
    whole-known c.args.method.now c.args.code.now c.as_slice.result.now c.in_ok-gathered.gathered.frames.items c.in_ok-gathered.gathered.room (record { frames = c.in_ok-as_items.field-0 }) (c.as_slice.ensures.value ∙ c.in_ok-all.ensures) c.in_ok-gathered.ensures.grown c.in_ok-as_items.ensures
