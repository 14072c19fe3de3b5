-- What the words ask for.
use Rattle.std.specs.Prelude.{ℕ, List, Option, option_map}
use Rattle.fp_words.specs.Words.{RunAsked, run_asked}

-- the run that the words ask for
abbrev pub asked_of : List (List ℕ) → Option RunAsked
asked_of words = run_asked words

-- the directory of the words, where they are of the grammar
abbrev pub directory_of : List (List ℕ) → Option (List ℕ)
directory_of words = option_map (λ asked. asked.dir) (asked_of words)
