use Rattle.fp_origin.proofs.WrittenWords.{place-written}
use Rattle.fp_origin.proofs.group.moves.written.Goals as goal

pub loop-place-preserved : goal.loop-place-preserved
loop-place-preserved c =
    place-written c.args.at c.loop-place.place c.args.words.now c.args.locals.now _ c.loop-place.written.items c.push.new.self.items c.written_word.result 0
    c.loop-place-test.true c.loop-place.invariant c.written_word.ensures c.in_ok-push.ensures.items
