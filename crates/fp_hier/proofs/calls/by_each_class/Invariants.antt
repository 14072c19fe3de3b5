use Rattle.std.proofs.Common.{length, map, take}
use Rattle.fp_model.specs.ClassSet.{methods_of}
use Rattle.fp_facts.specs.Selection.{selected_at}
use Rattle.fp_hier.specs.Targets.{AreTargetsByClass}
use Rattle.fp_hier.proofs.calls.by_each_class.Given as goal

abbrev pub invariant-loop-class : goal.invariant-loop-class
invariant-loop-class l =
    AreTargetsByClass (length (methods_of l.set.classes)) (map (λ id. (id, selected_at l.set id l.reference.signature.name l.reference.signature.descr)) (take l.class-index l.class-items)) l.by_class.items
