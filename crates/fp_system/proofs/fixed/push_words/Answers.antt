use Rattle.fp_system.proofs.StartLemmas.{words_step}
use Rattle.fp_system.proofs.fixed.push_words.Goals as goal

pub loop-i-preserved : goal.loop-i-preserved
loop-i-preserved c =
    words_step c.args.is_selected c.args.bits c.loop-i.i c.args.words.now.items c.loop-i.words.items c.push.new.self.items c.start_word.result c.saturating_sub.result
    c.loop-i.invariant c.in_ok-push.ensures.items c.start_word.ensures c.saturating_sub.ensures
