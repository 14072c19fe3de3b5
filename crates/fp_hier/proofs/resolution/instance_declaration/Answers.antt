use Rattle.std.proofs.Common.{sym, ◌∙◌}
use Rattle.fp_hier.specs.Given.{given_by, is_instance}
use Rattle.fp_hier.specs.Lineages.{rest_of}
use Rattle.fp_hier.proofs.GivenMembers.{give-found, give-none, instance-declaration-is}
use Rattle.fp_hier.proofs.resolution.instance_declaration.Goals as goal

pub returns-in-Some-instance_method : goal.returns-in-Some-instance_method
returns-in-Some-instance_method c = λ own at.
    let classes = c.args.set.now.classes in
    give-found (given_by classes is_instance c.args.signature.name c.args.signature.descr) (rest_of classes c.loop-id.rest) (rest_of classes c.step.new.self) c.in-Some.id c.in-Some-instance_method.method _
    c.in-Some.ensures.one (sym c.in-Some-instance_method.ensures) c.loop-id.invariant.same
    ∙ instance-declaration-is classes c.args.class c.args.signature.name c.args.signature.descr own at

pub returns : goal.returns
returns c = λ own at.
    let classes = c.args.set.now.classes in
    give-none (given_by classes is_instance c.args.signature.name c.args.signature.descr) (rest_of classes c.loop-id.rest) _ (c.step.ensures.none c.in_default.is) c.loop-id.invariant.same
    ∙ instance-declaration-is classes c.args.class c.args.signature.name c.args.signature.descr own at
