use Rattle.fp_model.specs.ClassSet.{methods_of}
use Rattle.fp_system.proofs.RootLemmas.{root_step}
use Rattle.fp_system.proofs.words.roots.find_methods.Goals as goal

pub loop-id-preserved : goal.loop-id-preserved
loop-id-preserved c = root_step c.args.set.now c.args.wanted.now.texts c.loop-id.found c.note_method.new.found (methods_of c.args.set.now.classes) c.loop-id.id c.method-method.result.now c.method-method.ensures c.in_ok-note_method.ensures c.loop-id.invariant
