use Rattle.std.proofs.Common.{sym}
use Rattle.fp_hier.specs.Lineages.{classes_up}
use Rattle.fp_hier.specs.declared.resolution.interfaces.Wanted.TheVariants as sought
use Rattle.fp_hier.proofs.GivenMembers.{declared-known}
use Rattle.fp_hier.proofs.MemberReferences.{coded-is, interface-known, interface-known-if, open-is}
use Rattle.fp_hier.proofs.resolution.resolve_method.Goals as goal

pub returns-in-Some-clause-known : goal.returns-in-Some-clause-known
returns-in-Some-clause-known c = declared-known c.args.set.now.classes c.args.signature.name c.args.signature.descr c.in-Some.id (classes_up c.args.set.now.classes c.in_ok-class.class) (sym c.in-Some.ensures)

pub returns-in-Some-interface_method-clause-method : goal.returns-in-Some-interface_method-clause-method
returns-in-Some-interface_method-clause-method c =
    coded-is c.args.set.now.classes c.args.class c.in_ok-class.class c.args.signature.name c.args.signature.descr (sym c.in_ok-class.ensures.class) c.in_default.ensures c.in-Some-interface_method.id c.in-Some-interface_method.ensures

pub returns-in-Some-interface_method-clause-known : goal.returns-in-Some-interface_method-clause-known
returns-in-Some-interface_method-clause-known c =
    interface-known c.args.set.now.classes c.args.class c.in_ok-class.class c.args.signature.name c.args.signature.descr sought.WithCode c.in-Some-interface_method.id (sym c.in_ok-class.ensures.class) c.in-Some-interface_method.ensures

pub returns-clause-method : goal.returns-clause-method
returns-clause-method c =
    open-is c.args.set.now.classes c.args.class c.in_ok-class.class c.args.signature.name c.args.signature.descr (sym c.in_ok-class.ensures.class) c.in_default.ensures c.interface_method-2.result
    c.in_default-interface_method.ensures c.interface_method-2.ensures

pub returns-clause-known : goal.returns-clause-known
returns-clause-known c =
    interface-known-if c.args.set.now.classes c.args.class c.in_ok-class.class c.args.signature.name c.args.signature.descr sought.Any c.interface_method-2.result (sym c.in_ok-class.ensures.class) c.interface_method-2.ensures
