use Rattle.fp_flow.proofs.Extending.{from-parts}
use Rattle.fp_flow.proofs.control.push_from.Goals as goal

pub returns : goal.returns
returns c =
    from-parts c.args.code.now c.args.from c.args.placed.now c.args.pcs.now c.args.near.now c.args.edges.now.items c.push_next.new.edges.items c.push_branches.new.edges.items
    c.push_handlers.new.edges.items c.requires.pcs c.requires.near c.in_ok-push_next.ensures c.in_ok-push_branches.ensures c.in_ok-push_handlers.ensures
