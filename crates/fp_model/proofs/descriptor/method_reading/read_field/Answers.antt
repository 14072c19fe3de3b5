use Rattle.std.proofs.Common.{Err, ap}
use Rattle.std.proofs.lemmas.Bool.{both_ways}
use Rattle.fp_model.specs.Descriptor.{is_field_descriptor, kind_names}
use Rattle.fp_model.proofs.Stops.{StopsAt-fails}
use Rattle.fp_model.proofs.Taking.{taken_full, taken_ok}
use Rattle.fp_model.proofs.descriptor.method_reading.read_field.Goals as goal

pub unreachable-requires : goal.unreachable-requires
unreachable-requires c =
    let stops = c.in-Err-Bad.ensures.bad_at c.in-Err-Bad.field-0-0 (ap Err c.in-Err-Bad.field-0-is) in
    both_ways (is_field_descriptor c.args.text.now) (StopsAt-fails is_field_descriptor c.args.text.now c.in-Err-Bad.field-0-0 stops) c.requires.field

pub returns-in-Ok-clause-names : goal.returns-in-Ok-clause-names
returns-in-Ok-clause-names c = taken_ok c.in-Ok.kind c.args.names.now c.read_kind.new.names (kind_names c.args.text.now) c.in-Ok.ensures.names

pub returns-in-Err-Full-clause-names : goal.returns-in-Err-Full-clause-names
returns-in-Err-Full-clause-names c =
    let full = c.in-Err-Full.ensures.full.0 (ap Err c.in-Err-Full.field-0-is) in
    taken_full c.args.names.now c.read_kind.new.names (kind_names c.args.text.now) c.in-Err-Full.ensures.err full.1
