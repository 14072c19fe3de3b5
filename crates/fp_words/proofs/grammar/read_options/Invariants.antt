use Rattle.std.proofs.Common.{◌≡◌, ◌≤◌, ◌-◌, drop, length}
use Rattle.fp_base.specs.Files.{texts}
use Rattle.fp_words.specs.Asked.{given_of}
use Rattle.fp_words.specs.Words.{options_of, none_given}
use Rattle.fp_words.proofs.grammar.read_options.Given as goal

abbrev pub decreases-loop-given : goal.decreases-loop-given
decreases-loop-given l = length l.words - l.at

-- the options so far, and then the words that are left
abbrev pub invariant-loop-given : goal.invariant-loop-given
invariant-loop-given l =
    (l.at ≤ length l.words)
    × (options_of (given_of l.given) (drop l.at (texts l.words)) ≡ options_of none_given (texts l.words))
