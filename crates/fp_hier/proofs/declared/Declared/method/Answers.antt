use Rattle.std.proofs.Common.{◌∙◌}
use Rattle.fp_hier.proofs.declared.Declared.method.Goals as goal

pub returns : goal.returns
returns c = λ set told. c.copied.ensures ∙ c.get.ensures.value ∙ told.methods_told.first (record { class = c.args.class; name = c.args.signature.name; descr = c.args.signature.descr })
