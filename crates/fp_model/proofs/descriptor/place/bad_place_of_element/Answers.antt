use Rattle.std.proofs.Common.{rules}
use Rattle.fp_model.proofs.ArrayTypes.{element_class}
use Rattle.fp_model.proofs.descriptor.place.bad_place_of_element.Goals as goal

pub returns-in-Some-clause-some : goal.returns-in-Some-clause-some
returns-in-Some-clause-some c = element_class c.args.text.now c.in-Some.place (search rules) (search rules) c.in-Some.ensures.some
