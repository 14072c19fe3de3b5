use Rattle.std.proofs.Common.{◌≡◌, map, take}
use Rattle.fp_class.specs.Texts.{words_in}
use Rattle.fp_class.proofs.texts.mark_words.Given as goal

abbrev pub invariant-loop-entry : goal.invariant-loop-entry
invariant-loop-entry l = l.words.items ≡ map words_in (take l.entry-index l.entries)
