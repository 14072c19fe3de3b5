use Rattle.std.proofs.Common.{Err, ap}
use Rattle.fp_model.specs.Descriptor.{is_field_descriptor, kind_names}
use Rattle.fp_ops.proofs.NamedParts.{not_bad}
use Rattle.fp_model.proofs.Interned.{interned_full, interned_ok}
use Rattle.fp_ops.proofs.kinds.kind.Goals as goal

pub unreachable-requires : goal.unreachable-requires
unreachable-requires c = not_bad is_field_descriptor c.args.descr.now c.in-Err-Bad.field-0-0 c.requires.descr (c.in-Err-Bad.ensures.bad_at c.in-Err-Bad.field-0-0 (ap Err c.in-Err-Bad.field-0-is))

pub returns-in-Ok-clause-names : goal.returns-in-Ok-clause-names
returns-in-Ok-clause-names c = interned_ok c.in-Ok.kind c.args.names.now c.read_kind.new.names (kind_names c.args.descr.now) c.in-Ok.ensures.names

pub returns-in-Err-Full-clause-names : goal.returns-in-Err-Full-clause-names
returns-in-Err-Full-clause-names c =
    let full = c.in-Err-Full.ensures.full.0 (ap Err c.in-Err-Full.field-0-is) in
    interned_full c.args.names.now c.read_kind.new.names (kind_names c.args.descr.now) c.in-Err-Full.ensures.err full.1
