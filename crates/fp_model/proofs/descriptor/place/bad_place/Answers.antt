use Rattle.std.proofs.Common.{arith}
use Rattle.fp_model.proofs.ArrayTypes.{field_stops}
use Rattle.fp_model.proofs.descriptor.place.bad_place.Goals as goal

pub returns-in-Some-clause-some : goal.returns-in-Some-clause-some
returns-in-Some-clause-some c = field_stops c.args.text.now c.count_dimensions-dims.result c.in-Some.place c.count_dimensions-dims.ensures.count (omega arith) c.in-Some.ensures.some
