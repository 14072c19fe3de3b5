use Rattle.fp_model.specs.Descriptor.{is_method_descriptor}
use Rattle.fp_model.proofs.Stops.{passes_or_stops}
use Rattle.fp_model.proofs.descriptor.method.is_descr.Goals as goal

pub returns : goal.returns
returns c = passes_or_stops is_method_descriptor c.args.text.now c.bad_place_of_method.result c.is_none.result c.bad_place_of_method.ensures.none c.bad_place_of_method.ensures.some c.is_none.ensures
