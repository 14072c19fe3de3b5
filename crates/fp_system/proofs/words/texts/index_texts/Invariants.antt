use Rattle.std.proofs.Common.{take}
use Rattle.fp_base.specs.Files.{texts}
use Rattle.fp_system.proofs.TextLemmas.{HasTexts}
use Rattle.fp_system.proofs.words.texts.index_texts.Given as goal

abbrev pub invariant-loop-word : goal.invariant-loop-word
invariant-loop-word l = HasTexts l.names (texts (take l.word-index l.words))
