use Rattle.std.proofs.Common.{◌++◌, ◌∙◌, ap, length, arith}
use Rattle.std.proofs.Math.ListN.{length-set}
use Rattle.fp_origin.proofs.Growing.{grow-more}
use Rattle.fp_origin.proofs.search.growth.grow_sets.Goals as goal

pub loop-place-preserved : goal.loop-place-preserved
loop-place-preserved c = record {
  long = ap length c.in_ok-grow_set.ensures ∙ length-set c.loop-place.sets.items c.loop-place.place _ ∙ c.loop-place.invariant.long;
  grown = grow-more c.args.group.now (c.args.locals.now ++ c.args.stack.now) c.word_of.result c.loop-place.place c.args.sets.now.items c.loop-place.sets.items c.grow_set.new.sets.items (omega arith) c.word_of.ensures c.loop-place.invariant.grown c.in_ok-grow_set.ensures;
}
