use Rattle.fp_model.specs.Descriptor.{is_field_descriptor}
use Rattle.fp_model.proofs.Stops.{passes_or_stops}
use Rattle.fp_model.proofs.descriptor.is_kind.Goals as goal

pub returns : goal.returns
returns c = passes_or_stops is_field_descriptor c.args.text.now c.bad_place.result c.is_none.result c.bad_place.ensures.none c.bad_place.ensures.some c.is_none.ensures
