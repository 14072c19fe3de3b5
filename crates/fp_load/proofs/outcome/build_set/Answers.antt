use Rattle.std.proofs.lemmas.Result.{err_from_is_err_and}
use Rattle.fp_load.proofs.outcome.build_set.Goals as goal

pub returns-in_err-set-clause-fault : goal.returns-in_err-set-clause-fault
returns-in_err-set-clause-fault c =
    let p = err_from_is_err_and c.from_residual.result c.from_residual.ensures.1 in
    rw p.1 (p.2.tells (record { classes = c.args.classes.items; names = c.args.names }) c.in_err-set.ensures.refused)

pub returns-in_err-set-clause-inner : goal.returns-in_err-set-clause-inner
returns-in_err-set-clause-inner c =
    let p = err_from_is_err_and c.from_residual.result c.from_residual.ensures.1 in
    rw p.1 p.2.inner
