use Rattle.std.proofs.Common.{arith}
use Rattle.std.proofs.lemmas.List.FromFn.{map-range_with_len_more}
use Rattle.fp_rta.specs.CallGraph.{initialiser}
use Rattle.fp_rta.proofs.initialiser.initialiser_table.Goals as goal

pub loop-class-preserved : goal.loop-class-preserved
loop-class-preserved c =
    let more = map-range_with_len_more (initialiser c.args.set.now) 0 c.loop-class.class c.loop-class.class (omega arith) in
    cc (c.in_ok-push.ensures.items, c.initialiser.ensures)
