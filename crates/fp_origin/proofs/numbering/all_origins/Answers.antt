use Rattle.std.proofs.Common.{arith}
use Rattle.fp_origin.proofs.Numbered.{all-known, arguments-few}
use Rattle.fp_origin.proofs.numbering.all_origins.Goals as goal

pub push_arguments-requires : goal.push_arguments-requires
push_arguments-requires c = arguments-few c.args.method.now c.args.code.now c.requires.sound c.requires.code (omega arith)

pub returns : goal.returns
returns c =
    all-known c.args.method.now c.args.code.now c.in_ok-origins.origins.items c.push_arguments.new.origins.items c.push_allocations.new.origins.items c.push_results.new.origins.items c.push.new.self.items c.in_ok-origins.ensures.items c.in_ok-push_arguments.ensures c.in_ok-push_allocations.ensures c.in_ok-push_results.ensures c.in_ok-push.ensures.items
