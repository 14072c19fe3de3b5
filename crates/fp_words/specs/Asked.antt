-- What the code keeps of the words, read off as bytes.
use Rattle.std.specs.Prelude.{ℕ, ◌+◌, Bool, ◌&&◌, not, nat_lt, length, is_some, List, [], option_map, option_and_then, slice_get, unwrap_or, string_bytes, String}
use Rattle.std.specs.Borrow.{Bor}
use Rattle.std.specs.declared.alloc.Global.{Global}
use Rattle.fp_base.specs.Files.{texts}
use Rattle.fp_words.specs.Lists.{list_items}
use Rattle.fp_words.specs.Words.{Given, Asked, Run, Generate, RunAsked, one_worker, is_plain}
use Rattle.fp_words.specs.declared.grammar.Given as code
use Rattle.fp_words.specs.declared.job.Job.{Job}
use Rattle.fp_words.specs.declared.job.Order.{Order}
use Rattle.fp_words.specs.declared.job.Order.TheVariants as code-order

-- the word at a place, or no text
abbrev pub word_at : List (List ℕ) → ℕ → List ℕ
word_at words place = unwrap_or (slice_get words place) []

-- two words stand at a place, and the first is not plain
abbrev pub has_option : List (List ℕ) → ℕ → Bool
has_option words place = nat_lt (place + 1) (length words) && not (is_plain (word_at words place))

-- the values of the options
abbrev pub given_of : code.Given → Given
given_of given = record {
  analyses = option_map (λ text. text.now) given.analyses;
  show = option_map (λ text. text.now) given.show;
  workers = option_map (λ text. text.now) given.workers;
}

-- the values of the options, and the words after them
abbrev pub parts_of : code.Given × Bor (List (String Global)) → Given × List (List ℕ)
parts_of parts = (given_of parts.0, texts parts.1.now)

-- each option was given, with a value of its form
abbrev pub has_values : Given → Bool
has_values given =
    is_some (option_and_then list_items given.analyses)
    && (is_some (option_and_then list_items given.show) && is_some (option_and_then one_worker given.workers))

-- the run that a job says
abbrev pub run_of_job : Job → RunAsked
run_of_job job = record {
  dir = string_bytes job.dir;
  roots = texts job.roots;
  analyses = texts job.analyses;
  show = texts job.show;
  workers = job.workers;
  assume = option_map string_bytes job.assume;
  all = job.all;
  cycles = job.cycles;
}

-- what an order asks for
abbrev pub asked_of : Order → Asked
asked_of (code-order.Run job) = Run (run_of_job job)
asked_of (code-order.Generate seed classes workers) = Generate seed classes workers
