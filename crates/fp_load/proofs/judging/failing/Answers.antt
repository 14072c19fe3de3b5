use Rattle.fp_load.proofs.JudgingLemmas.{failing-failing, kinded-failing}
use Rattle.fp_load.proofs.judging.failing.Goals as goal

pub returns-in-Ok-clause-failing : goal.returns-in-Ok-clause-failing
returns-in-Ok-clause-failing c = kinded-failing c.args.method.now c.in-Some.code c.in-Ok.field-0 c.in-Some.is c.in-Ok.ensures.kinds

pub returns-in-Err-Bad-clause-failing : goal.returns-in-Err-Bad-clause-failing
returns-in-Err-Bad-clause-failing c =
    failing-failing c.args.method.now c.in-Some.code c.in-Err-Bad.pc c.in-Some.is (rw c.in-Err-Bad.field-0-is at c.in-Err-Bad.ensures.fault)
