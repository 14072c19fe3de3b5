-- Refusals of the code, and what they say of the outcome.
use Rattle.std.specs.Prelude.{◌≡◌, ℕ, List, map, Option, Some, None, Result, string_bytes}
use Rattle.fp_base.specs.Calls.{Call}
use Rattle.fp_model.specs.ClassSet.{SetView}
use Rattle.fp_load.specs.declared.fault.LoadFault.{LoadFault}
use Rattle.fp_load.specs.Causes as causes
use Rattle.fp_load.specs.Causes.{IsBlamed}
use Rattle.fp_load.specs.Faults.{Tells, refusal_told}
use Rattle.fp_load.specs.Load.{LoadRefusal}
use Rattle.fp_system.specs.declared.fault.SystemFault.{SystemFault}
use Rattle.fp_system.specs.Faults.{TellsSystemRefusal}
use Rattle.fp_system.specs.Java.{SystemRefusal}
use Rattle.fp_words.specs.Words.{RunAsked}
use Rattle.fp_top.specs.declared.status.Status.{Status}
use Rattle.fp_top.specs.declared.status.Status.TheVariants as status
use Rattle.fp_top.specs.declared.refusal.Refusal.{Refusal}
use Rattle.fp_top.specs.declared.refusal.Refusal.TheVariants as refusal
use Rattle.fp_top.specs.Outcome.{Outcome, outcome_by, outcome_of_load, usage_text, fault_lines, duplicate_text, cycle_text, selection_text, limit_text, read_text, memory_text}
use Rattle.fp_top.specs.Outcome.Outcome.{Refuse}
use Rattle.fp_top.specs.Words.{directory_of}

-- the status of a refusal
abbrev pub status_of : Refusal → Status
status_of refusal.Usage = status.Usage
status_of (refusal.Read path) = status.ReadFault
status_of (refusal.Files refused) = status.Refused
status_of (refusal.Duplicate name) = status.Refused
status_of (refusal.Cycle name) = status.Refused
status_of (refusal.Selection item) = status.Selection
status_of (refusal.Limit bound most) = status.Limit
status_of refusal.Memory = status.Memory

-- what it writes to err; the names of duplicates and of cycles are escaped already
abbrev pub text_of : Refusal → List ℕ
text_of refusal.Usage = usage_text
text_of (refusal.Read path) = read_text (string_bytes path)
text_of (refusal.Files refused) = fault_lines (map refusal_told refused)
text_of (refusal.Duplicate escaped) = duplicate_text (string_bytes escaped)
text_of (refusal.Cycle escaped) = cycle_text (string_bytes escaped)
text_of (refusal.Selection item) = selection_text (string_bytes item)
text_of (refusal.Limit bound most) = limit_text bound most
text_of refusal.Memory = memory_text

-- a read fault and want of memory say nothing of the outcome
abbrev pub Says : Outcome → Refusal → Type 0
Says outcome (refusal.Read path) = Unit {0}
Says outcome refusal.Memory = Unit {0}
Says outcome refused = outcome ≡ Refuse (status_of refused) (text_of refused)

-- only a read fault needs a cause outside
abbrev pub Blames : List ℕ → List (List ℕ) → List Call → List Call → Refusal → Type 0
Blames dir listed before now (refusal.Read path) = IsBlamed dir listed before now (string_bytes path)
Blames dir listed before now _ = Unit {0}

-- a refusal that needs no cause outside, of words that are of the grammar
abbrev pub IsOwn : Refusal → Type 0
IsOwn refusal.Usage = ⊥
IsOwn (refusal.Read path) = ⊥
IsOwn _ = Unit {0}

-- a refusal of words that are of the grammar
abbrev pub IsNoUsage : Refusal → Type 0
IsNoUsage refusal.Usage = ⊥
IsNoUsage _ = Unit {0}

-- a refusal is Usage exactly where the words name no directory
abbrev pub IsWorded : Option (List ℕ) → Refusal → Type 0
IsWorded None refusal.Usage = Unit {0}
IsWorded None _ = ⊥
IsWorded (Some dir) r = IsNoUsage r

-- only a read fault needs a cause, and it names the directory of the words, or a listed file below it
abbrev pub BlamesIn : Option (List ℕ) → List (List ℕ) → List Call → List Call → Refusal → Type 0
BlamesIn None listed before now (refusal.Read path) = ⊥
BlamesIn None listed before now _ = Unit {0}
BlamesIn (Some dir) listed before now r = Blames dir listed before now r

abbrev pub BlamesWords : List (List ℕ) → List (List ℕ) → List Call → List Call → Refusal → Type 0
BlamesWords words listed before now r = BlamesIn (directory_of words) listed before now r

-- a refusal of words: Usage where they ask for nothing, or want of memory
abbrev pub IsUsage : Option RunAsked → Refusal → Type 0
IsUsage asked refusal.Usage = asked ≡ None
IsUsage asked refusal.Memory = Unit {0}
IsUsage asked _ = ⊥

-- a fault of loading, as a refusal
pub record IsOfLoad (why : LoadFault) (refused : Refusal) : Type 0 where
  pub says : (asked : RunAsked) (loaded : Result SetView LoadRefusal) → Tells loaded why → Says (outcome_of_load asked loaded) refused
  pub worded : IsNoUsage refused
  pub blames : (dir : List ℕ) (listed : List (List ℕ)) (before now : List Call) → causes.Blames dir listed before now why → Blames dir listed before now refused

-- why there is no system, as a refusal
pub record IsOfSystem (why : SystemFault) (refused : Refusal) : Type 0 where
  pub says : (set : SetView) (asked : RunAsked) (told : Option SystemRefusal) → TellsSystemRefusal told why → Says (outcome_by set asked told) refused
  pub own : IsOwn refused
