use Rattle.std.proofs.Common.{◌∙◌, sym}
use Rattle.fp_hier.proofs.FirstMembers.{method-known}
use Rattle.fp_hier.proofs.resolution.interfaces.of_interface.Goals as goal

pub method-requires-2 : goal.method-requires-2
method-requires-2 c =
    method-known c.args.set.now.classes c.args.signature.name c.args.signature.descr c.args.class c.in_ok-id.id (sym (c.method.ensures c.args.set.now c.requires.hier.members) ∙ c.in_ok-id.was)
