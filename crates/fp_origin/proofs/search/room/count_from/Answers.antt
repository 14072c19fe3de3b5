use Rattle.std.proofs.Common.{◌%◌, ap, drop, length, arith}
use Rattle.std.proofs.lemmas.Bool.{ne_eqb}
use Rattle.fp_origin.proofs.Chosen.{chosen-zero, count-even, count-odd}
use Rattle.fp_origin.proofs.search.room.count_from.Goals as goal
use Rattle.fp_origin.proofs.search.room.count_from.Goals.{then-rest-eq1, else-rest-eq1}

pub returns-then-rest-eq0 : goal.returns-then-rest-eq0
returns-then-rest-eq0 c = omega (arith, c.loop-origin.invariant.count, ap length (chosen-zero (drop c.loop-origin._origin-index c.args.group.now) c.loop-origin.rest c.if-rest-eq0.true))

pub loop-origin-preserved : goal.loop-origin-preserved
loop-origin-preserved c =
    elim c.if-rest-eq1.branch [
      | then-rest-eq1 w ↦ record {
        few = omega (arith, c.loop-origin.invariant.few);
        count = omega (arith, c.loop-origin.invariant.count, count-odd c.args.group.now c.loop-origin._origin-index c.loop-origin.rest (omega arith) w.if-rest-eq1.true);
      }
      | else-rest-eq1 w ↦ record {
        few = omega (arith, c.loop-origin.invariant.few);
        count = omega (arith, c.loop-origin.invariant.count, count-even c.args.group.now c.loop-origin._origin-index c.loop-origin.rest (omega arith) (ne_eqb (c.loop-origin.rest % 2) 1 w.if-rest-eq1.false));
      }
    ]
