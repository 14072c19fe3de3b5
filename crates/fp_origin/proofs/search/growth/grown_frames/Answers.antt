use Rattle.std.proofs.Common.{arith, length-append, ◌∷◌, []}
use Rattle.fp_origin.proofs.Growing.{frames-more}
use Rattle.fp_origin.proofs.search.growth.grown_frames.Goals as goal

pub loop-frame-preserved : goal.loop-frame-preserved
loop-frame-preserved c = record {
  number = omega (arith, length-append c.loop-frame.yielded (c.in-Some.frame ∷ []), c.loop-frame.invariant.number);
  grown = frames-more c.args.group.now c.args.labels.now c.loop-frame.yielded c.loop-frame.grown.items c.push.new.self.items c.in-Some.frame c.in_ok-grown_at.field-0 c.loop-frame.number c.loop-frame.invariant.number c.loop-frame.invariant.grown c.in_ok-grown_at.ensures c.in_ok-push.ensures.items;
}
