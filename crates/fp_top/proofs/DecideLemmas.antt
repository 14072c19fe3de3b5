-- What the steps of a run say together.
use Rattle.std.proofs.Common.{◌≡◌, ℕ, List, Option, Some, sym, subst}
use Rattle.fp_base.specs.Calls.{Call}
use Rattle.fp_base.specs.Files.{File}
use Rattle.fp_load.specs.Load.{loaded_of}
use Rattle.std.specs.Option.{option_map}
use Rattle.fp_words.specs.Words.{RunAsked}
use Rattle.fp_top.specs.declared.refusal.Refusal.{Refusal}
use Rattle.fp_top.specs.Outcome.{outcome, outcome_of_load, outcome_of_run}
use Rattle.fp_top.specs.Refusal.{Blames, BlamesIn, BlamesWords, IsNoUsage, IsWorded, Says}
use Rattle.fp_top.specs.Words.{asked_of, directory_of}

-- what the words' run is refused for
pub says_of_words : (words : List (List ℕ)) (files : List File) (asked : RunAsked) (r : Refusal) → asked_of words ≡ Some asked → Says (outcome_of_load asked (loaded_of files asked.dir)) r → Says (outcome words files) r
says_of_words words files asked r is says = subst (λ o. Says (outcome_of_run files o) r) (sym is) says

-- and what it is blamed on
pub blames_of_words : (words : List (List ℕ)) (asked : RunAsked) (listed : List (List ℕ)) (before now : List Call) (r : Refusal) → asked_of words ≡ Some asked → Blames asked.dir listed before now r → BlamesWords words listed before now r
blames_of_words words asked listed before now r is blames = subst (λ (o : Option RunAsked). BlamesIn (option_map (λ run. run.dir) o) listed before now r) (sym is) blames

-- words that ask for a run are not refused as Usage
pub worded_of_words : (words : List (List ℕ)) (asked : RunAsked) (r : Refusal) → asked_of words ≡ Some asked → IsNoUsage r → IsWorded (directory_of words) r
worded_of_words words asked r is worded = subst (λ (o : Option RunAsked). IsWorded (option_map (λ run. run.dir) o) r) (sym is) worded
