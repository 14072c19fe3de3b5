use Rattle.fp_extract.proofs.SeedNodes.{edges-told}
use Rattle.fp_extract.proofs.seed.seed_edges.Goals as goal

pub returns : goal.returns
returns c =
    edges-told c.args.set.now.classes c.args.roots.now c.new-edges.result.items c.push_roots.new.edges.items c.push_classes.new.edges.items c.new-edges.ensures.items c.in_ok-push_roots.ensures c.in_ok-push_classes.ensures
