-- A directory in memory.
use Rattle.std.specs.Prelude.{◌≡◌, ◌==◌, ℕ, Bool, List, IsTrue}
use Rattle.std.specs.List.{list_any}
use Rattle.fp_base.specs.Counters.{one_more}
use Rattle.fp_base.specs.Files.{File, distinct_paths}
use Rattle.fp_base.specs.Calls.{Call}

-- its files, the numbers of the calls that fail, how many calls there were, how many of them asked for a file, what the last
-- listing answered, and which calls failed
pub record MemDirState : Type 0 where
  pub files : List File
  pub failing : List ℕ
  pub calls : ℕ
  pub readings : ℕ
  pub listed : List (List ℕ)
  pub failed : List Call
  pub apart : IsTrue (distinct_paths files)

-- one more call was made, of the same directory
pub record Counts (old new : MemDirState) : Type 0 where
  pub files : new.files ≡ old.files
  pub failing : new.failing ≡ old.failing
  pub calls : new.calls ≡ one_more old.calls

-- the call of this number is one of those that fail
abbrev pub is_failing : List ℕ → ℕ → Bool
is_failing failing call = list_any (λ number. number == call) failing
