use Rattle.std.proofs.Common.{◌≡◌, ◌+◌, drop}
use Rattle.fp_origin.specs.Growth.{words_pairs}
use Rattle.fp_origin.proofs.search.room.room_after_words.Given as goal

abbrev pub invariant-loop-word : goal.invariant-loop-word
invariant-loop-word l = l.room + words_pairs l.group (drop l.word-index l.words) ≡ l.left + words_pairs l.group l.words
