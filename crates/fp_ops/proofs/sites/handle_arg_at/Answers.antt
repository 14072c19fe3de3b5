use Rattle.fp_model.specs.NamedInstructions.{member_at}
use Rattle.fp_ops.proofs.ReferenceTexts.{reference_there}
use Rattle.fp_ops.proofs.sites.handle_arg_at.Goals as goal

pub handle_arg-requires-clause-there : goal.handle_arg-requires-clause-there
handle_arg-requires-clause-there c =
    reference_there c.args.entries.now (member_at c.args.entries.now c.args.index) c.in-Some.member.class c.in-Some.member.name c.in-Some.member.descr c.in-Some.ensures.some c.requires.there
