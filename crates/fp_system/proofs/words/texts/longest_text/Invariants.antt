use Rattle.std.proofs.Common.{◌≡◌, ◌≤◌, ℕ, List, length, take, true}
use Rattle.fp_base.specs.Files.{texts}
use Rattle.fp_system.specs.Java.{has_text}
use Rattle.fp_system.proofs.words.texts.longest_text.Given as goal

abbrev pub invariant-loop-word : goal.invariant-loop-word
invariant-loop-word l = (text : List ℕ) → has_text (texts (take l.word-index l.words)) text ≡ true → length text ≤ l.longest
