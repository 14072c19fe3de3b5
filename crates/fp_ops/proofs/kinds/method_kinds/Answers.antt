use Rattle.std.proofs.Common.{Err, ap}
use Rattle.fp_model.specs.Descriptor.{descr_names, is_method_descriptor}
use Rattle.fp_model.proofs.Taking.{taken_ok}
use Rattle.fp_ops.proofs.NamedParts.{not_bad}
use Rattle.fp_ops.proofs.kinds.method_kinds.Goals as goal

pub unreachable-requires : goal.unreachable-requires
unreachable-requires c = not_bad is_method_descriptor c.args.descr.now c.in-Err-Bad.field-0-0 c.requires.descr (c.in-Err-Bad.ensures.bad_at c.in-Err-Bad.field-0-0 (ap Err c.in-Err-Bad.field-0-is))

pub returns-in-Ok-clause-names : goal.returns-in-Ok-clause-names
returns-in-Ok-clause-names c = taken_ok c.in-Ok.kinds c.args.names.now c.read_descr.new.names (descr_names c.args.descr.now) c.in-Ok.ensures.names
