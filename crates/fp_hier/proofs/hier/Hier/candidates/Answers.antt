use Rattle.std.proofs.Common.{sym}
use Rattle.fp_hier.proofs.CallerClasses.{called-at, class-there, uncalled-at}
use Rattle.fp_hier.proofs.hier.Hier.candidates.Goals as goal

pub returns-in-Some : goal.returns-in-Some
returns-in-Some c =
    let class = class-there c.args.set.now.classes c.class_of_method.result c.class_of_method.ensures.class in
    called-at c.args.set.now c.args.caller c.class_of_method.result class.0 c.args.ins.now c.in-Some.reference _ c.class_of_method.ensures.class c.class_of_method.ensures.from c.class_of_method.ensures.to
    class.1 (sym c.in-Some.ensures.reference) c.reference_targets.ensures

pub returns-in-None : goal.returns-in-None
returns-in-None c =
    let class = class-there c.args.set.now.classes c.class_of_method.result c.class_of_method.ensures.class in
    uncalled-at c.args.set.now c.args.caller c.class_of_method.result class.0 c.args.ins.now _ c.class_of_method.ensures.class c.class_of_method.ensures.from c.class_of_method.ensures.to
    class.1 (sym c.in-None.ensures.reference) c.none.ensures
