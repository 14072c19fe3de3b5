use Rattle.fp_class.proofs.Numberings.{with_name-few}
use Rattle.fp_class.proofs.numbers.entry_number.Goals as goal

pub returns-in-Ok-clause-few : goal.returns-in-Ok-clause-few
returns-in-Ok-clause-few c = rw c.in-Ok.ensures.names (with_name-few c.args.names.now c.as_slice.result.now)
