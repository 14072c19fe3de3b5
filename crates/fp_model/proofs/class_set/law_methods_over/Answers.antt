use Rattle.fp_model.proofs.MethodsOver.{methods_over}
use Rattle.fp_model.proofs.class_set.law_methods_over.Goals as goal

pub returns : goal.returns
returns c = methods_over
