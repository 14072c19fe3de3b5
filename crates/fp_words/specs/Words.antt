-- Which words ask for a run, and for which one.
use Rattle.std.specs.Prelude.{ℕ, ◌==◌, Bool, false, not, is_some, List, [], ◌∷◌, Option, Some, None, option_map, option_and_then, codes, if◌then◌else◌}
use Rattle.std.specs.List.{list_all}
use Rattle.std.specs.Str.{bytes_eq}
use Rattle.fp_words.specs.Lists.{list_items}
use Rattle.fp_words.specs.Numbers.{workers_of}

-- a word that may stand for anything but an option: not empty, and with no hyphen in front
abbrev pub is_plain : List ℕ → Bool
is_plain [] = false
is_plain (first ∷ rest) = not (first == 45)

-- ---- options

-- the values of the options that were given
pub record Given : Type 0 where
  pub analyses : Option (List ℕ)
  pub show : Option (List ℕ)
  pub workers : Option (List ℕ)

abbrev pub none_given : Given
none_given = record { analyses = None; show = None; workers = None }

-- an option and its value are added, where the option was not given before
abbrev pub with_value : Given → List ℕ → List ℕ → Option Given
with_value given option value =
    if bytes_eq option (codes "--analyses") then (if is_some given.analyses then None else Some (record given { analyses = Some value }))
    else (if bytes_eq option (codes "--show") then (if is_some given.show then None else Some (record given { show = Some value }))
    else (if bytes_eq option (codes "--workers") then (if is_some given.workers then None else Some (record given { workers = Some value }))
    else None))

abbrev pub with_option : Given → List ℕ → List ℕ → Option Given
with_option given option value = if is_plain value then with_value given option value else None

-- the options in front of the first plain word, each with the next word as its value, and the words from there on
abbrev pub options_of : Given → List (List ℕ) → Option (Given × List (List ℕ))
options_of given [] = Some (given, [])
options_of given (word ∷ []) = Some (given, word ∷ [])
options_of given (word ∷ value ∷ rest) =
    if is_plain word then Some (given, word ∷ value ∷ rest)
    else option_and_then (λ more. options_of more rest) (with_option given word value)

-- ---- what is asked for

-- a run, in bytes
pub record RunAsked : Type 0 where
  pub dir : List ℕ
  pub roots : List (List ℕ)
  pub analyses : List (List ℕ)
  pub show : List (List ℕ)
  pub workers : ℕ
  pub assume : Option (List ℕ)
  pub all : Bool
  pub cycles : Bool

-- a run, or one over generated class files, for which there are no words yet
pub data Asked : Type 0 where
  Run : (run : RunAsked) → Asked
  Generate : (seed : ℕ) (classes : ℕ) (workers : ℕ) → Asked

-- the number of workers, of which there is one for now
abbrev pub one_worker : List ℕ → Option ℕ
one_worker word = option_and_then (λ workers. if workers == 1 then Some workers else None) (workers_of word)

-- a run by its directory, its roots, and its options' values
abbrev pub asked : List ℕ → List (List ℕ) → List (List ℕ) → List (List ℕ) → ℕ → RunAsked
asked dir roots analyses show workers = record {
  dir = dir;
  roots = roots;
  analyses = analyses;
  show = show;
  workers = workers;
  assume = None;
  all = false;
  cycles = false;
}

-- the run of these options with a directory and roots: each option is needed
abbrev pub run_with : Given → List ℕ → List (List ℕ) → Option RunAsked
run_with given dir roots =
    option_and_then (λ analyses. option_and_then (λ show. option_map (λ workers. asked dir roots analyses show workers)
    (option_and_then one_worker given.workers))
    (option_and_then list_items given.show))
    (option_and_then list_items given.analyses)

-- the run of these options and the words from the directory on, each of which is plain
abbrev pub run_of : Given → List (List ℕ) → Option RunAsked
run_of given [] = None
run_of given (dir ∷ roots) = if list_all is_plain (dir ∷ roots) then run_with given dir roots else None

-- the run that the words ask for, where they are of the grammar
abbrev pub run_asked : List (List ℕ) → Option RunAsked
run_asked words = option_and_then (λ parts. run_of parts.0 parts.1) (options_of none_given words)

-- what the words ask for, where they are of the grammar
unfoldable pub order_of : List (List ℕ) → Option Asked
order_of words = option_map Run (run_asked words)
