use Rattle.std.proofs.Common.{length, subst, sym}
use Rattle.fp_model.specs.ClassSet.{methods_of}
use Rattle.fp_facts.specs.References.{candidates_by}
use Rattle.fp_hier.specs.Reach.{IsReach}
use Rattle.fp_hier.proofs.calls.reach.Goals as goal

pub returns-in-Dynamic : goal.returns-in-Dynamic
returns-in-Dynamic c =
    let methods = length (methods_of c.args.set.now.classes) in
    subst (λ form. IsReach methods (candidates_by c.args.set.now form c.args.reference) c.always-in-Dynamic.result) (sym c.in-Dynamic.is) (c.always-in-Dynamic.ensures methods _ (c.none.ensures.told methods))
