use Rattle.std.proofs.Common.{arith}
use Rattle.fp_system.proofs.TextLemmas.{words_step}
use Rattle.fp_system.proofs.words.texts.index_texts.Goals as goal

pub loop-word-preserved : goal.loop-word-preserved
loop-word-preserved c =
    words_step c.args.words.now c.loop-word.word-index c.word-item.result c.loop-word.names c.add_text.new.names c.as_bytes.result.now
    (omega arith) c.word-item.is c.as_bytes.ensures.value c.in_ok-add_text.ensures c.loop-word.invariant
