use Rattle.fp_model.specs.ClassSet.{methods_of}
use Rattle.fp_system.specs.Roots.{HasEntities}
use Rattle.fp_system.proofs.RootLemmas.{first_reach}
use Rattle.fp_system.proofs.words.roots.find_methods.Given as goal

abbrev pub invariant-loop-id : goal.invariant-loop-id
invariant-loop-id l = HasEntities l.set l.wanted.texts l.found (first_reach l.id (methods_of l.set.classes))
