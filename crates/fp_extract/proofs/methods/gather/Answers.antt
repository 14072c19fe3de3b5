use Rattle.std.proofs.Common.{sym, subst, arith}
use Rattle.std.proofs.lemmas.Result.{err_from_is_err_and}
use Rattle.fp_facts.specs.Facts.{coded_at}
use Rattle.fp_extract.specs.Gathering.{HasGathered}
use Rattle.fp_extract.proofs.NumberRanges.{one-number-more}
use Rattle.fp_extract.proofs.RoomSums.{pairs-of-all}
use Rattle.fp_extract.proofs.methods.gather.Goals as goal

pub returns-in_err-gather_method-clause-fault : goal.returns-in_err-gather_method-clause-fault
returns-in_err-gather_method-clause-fault c =
    let p = err_from_is_err_and c.from_residual-in_err-gather_method.result c.from_residual-in_err-gather_method.ensures.1 in
    rw (p.1, p.2)
    (pairs-of-all c.args.set.now.classes c.loop-id.id c.in_err-gather_method.field-0.0 (omega (arith, c.loop-id-test.true, c.counts-classes.ensures.methods)) c.in_err-gather_method.ensures.fault)

pub loop-id-preserved : goal.loop-id-preserved
loop-id-preserved c = record {
  told = c.in_ok-gather_method.ensures.told;
  gathered =
      subst (λ l. HasGathered c.args.set.now c.args.room l c.gather_method.new.gathered) (sym (one-number-more (coded_at c.args.set.now.classes) c.loop-id.id))
      (c.in_ok-gather_method.ensures.gathered c.args.room _ c.loop-id.invariant.gathered);
}
