-- The command line as it is described to the library that reads it.
use Rattle.std.specs.Prelude.{ℕ, true, List, [], Some, codes, unwrap_or}
use Rattle.clap.specs.Simple.{App, new_app, new_rule, on_top, with_rule}
use Rattle.clap.specs.Walk.{Row, Rule, all_of, first_of}
use Rattle.clap.specs.Lexer.{usize_max}
use Rattle.fp_words.specs.Lists.{distinct_items, items_between}
use Rattle.fp_words.specs.Numbers.{workers_of}
use Rattle.fp_words.specs.Words.{RunAsked, asked}

-- an option with a value in the next word
abbrev pub option_rule : List ℕ → Rule
option_rule name = record (new_rule name) { long = Some name }

-- the directory, and the roots after it
abbrev pub dir_rule : Rule
dir_rule = new_rule (codes "dir")

abbrev pub root_rule : Rule
root_rule = record (new_rule (codes "root")) { range = Some (record { start_inclusive = 1; end_inclusive = usize_max }) }

-- a command with neither a program's name in front nor flags of the library's own
abbrev pub bare_app : App
bare_app = on_top (λ top. record top { no_binary_name = true; disable_help_flag = true; disable_version_flag = true }) (new_app (codes "fpcf"))

-- the command of a run
abbrev pub run_app : App
run_app = with_rule (with_rule (with_rule (with_rule (with_rule bare_app
    (option_rule (codes "analyses"))) (option_rule (codes "show"))) (option_rule (codes "workers"))) dir_rule) root_rule

-- the value of an option or of the directory, or no text
abbrev pub value_in : List Row → List ℕ → List ℕ
value_in rows id = unwrap_or (first_of id rows) []

-- the run that the values say
abbrev pub run_in : List Row → RunAsked
run_in rows = asked (value_in rows (codes "dir")) (unwrap_or (all_of (codes "root") rows) [])
    (distinct_items (items_between (value_in rows (codes "analyses"))))
    (distinct_items (items_between (value_in rows (codes "show"))))
    (unwrap_or (workers_of (value_in rows (codes "workers"))) 1)
