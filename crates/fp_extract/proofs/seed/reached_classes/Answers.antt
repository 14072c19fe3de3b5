use Rattle.std.proofs.Common.{◌++◌, ◌∷◌, [], filter, sym, ap, ◌∙◌}
use Rattle.fp_extract.specs.SeedGraph.{is_reached}
use Rattle.fp_extract.proofs.NumberRanges.{one-tried-more}
use Rattle.fp_extract.proofs.seed.reached_classes.Goals as goal

pub loop-id-preserved : goal.loop-id-preserved
loop-id-preserved c =
    let p = is_reached c.args.set.now.classes c.args.flags.now in
    c.in_ok-push_reached.ensures ∙ ap (λ l. l ++ filter p (c.loop-id.id ∷ [])) c.loop-id.invariant ∙ sym (one-tried-more p c.loop-id.id)
