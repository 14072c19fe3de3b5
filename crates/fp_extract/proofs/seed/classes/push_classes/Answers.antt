use Rattle.fp_extract.specs.SeedGraph.{class_edges, most_names}
use Rattle.fp_extract.proofs.NumberRanges.{one-item-more}
use Rattle.fp_extract.proofs.SeedNames.{class-within}
use Rattle.fp_extract.proofs.seed.classes.push_classes.Goals as goal

pub push_class-requires : goal.push_class-requires
push_class-requires c = class-within c.args.set.now most_names c.loop-id.id c.class.result.now c.class.ensures.set c.requires c.class.ensures.class

pub loop-id-preserved : goal.loop-id-preserved
loop-id-preserved c =
    one-item-more class_edges c.args.set.now.classes c.loop-id.id c.class.result.now c.loop-id.edges.items c.push_class.new.edges.items _ c.class.ensures.class c.loop-id.invariant c.in_ok-push_class.ensures
