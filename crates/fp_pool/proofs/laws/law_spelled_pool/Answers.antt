use Rattle.fp_pool.proofs.Again.{checked_again, pool_again}
use Rattle.fp_pool.proofs.laws.law_spelled_pool.Goals as goal

pub returns-clause-cut : goal.returns-clause-cut
returns-clause-cut c = pool_again

pub returns-clause-read : goal.returns-clause-read
returns-clause-read c = checked_again
