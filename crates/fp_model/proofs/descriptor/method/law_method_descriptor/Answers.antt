use Rattle.fp_model.proofs.MethodGrammar.{has_parts, tells_parts}
use Rattle.fp_model.proofs.descriptor.method.law_method_descriptor.Goals as goal

pub returns-clause-parts : goal.returns-clause-parts
returns-clause-parts c = has_parts

pub returns-clause-whole : goal.returns-clause-whole
returns-clause-whole c = tells_parts
