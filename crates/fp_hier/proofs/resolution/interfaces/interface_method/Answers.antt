use Rattle.std.proofs.Common.{Some, None, ap, ◌∙◌}
use Rattle.std.specs.Option.{option_or}
use Rattle.fp_hier.specs.Sought.{passes}
use Rattle.fp_hier.proofs.InterfaceMethods.{first-above}
use Rattle.fp_hier.proofs.resolution.interfaces.interface_method.Goals as goal

pub returns-in-Some : goal.returns-in-Some
returns-in-Some c d is =
    first-above c.args.set.now.classes (passes c.args.wanted) c.args.signature.name c.args.signature.descr c.args.class c.class-own.result.now d (Some c.in-Some.id) c.class-own.ensures.class is c.in-Some.ensures

pub returns : goal.returns
returns c d is =
    ap (option_or None) c.among_superinterfaces.ensures
    ∙ first-above c.args.set.now.classes (passes c.args.wanted) c.args.signature.name c.args.signature.descr c.args.class c.class-own.result.now d None c.class-own.ensures.class is c.in_default.ensures
