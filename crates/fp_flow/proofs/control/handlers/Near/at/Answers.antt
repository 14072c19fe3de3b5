use Rattle.std.proofs.Common.{◌≤◌, List, length, sym, subst, arith}
use Rattle.fp_flow.specs.declared.control.handlers.Handler.{Handler}
use Rattle.fp_flow.specs.Handlers.{HasActive}
use Rattle.fp_flow.proofs.Nearness.{block-has_active}
use Rattle.fp_flow.proofs.control.handlers.Near.at.Goals as goal

pub returns-clause-active : goal.returns-clause-active
returns-clause-active c =
    λ j from to.
    let P : List Handler → Type 0 = λ near. HasActive c.args.handlers.now c.args.pcs.now near j in
    let most : c.min-until.result ≤ length c.args.pcs.now = omega arith in
    subst P (sym c.in_ok-handlers.ensures) (block-has_active c.args.handlers.now c.args.pcs.now c.args.k c.min-until.result c.requires.ascend most j from to)
