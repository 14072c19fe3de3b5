-- What a run answers, by its words and by the files that the directory tells.
use Rattle.std.specs.Prelude.{ℕ, List, [], ◌++◌, codes, Option, Some, None, Result, Ok, Err}
use Rattle.std.specs.List.{flat_map}
use Rattle.std.specs.Fmt.{decimal}
use Rattle.fp_base.specs.Files.{File}
use Rattle.fp_model.specs.declared.limit.LimitName.{LimitName}
use Rattle.fp_model.specs.declared.limit.LimitName.TheVariants.{Places}
use Rattle.fp_model.specs.Limits.{limit_name_text}
use Rattle.fp_model.specs.ClassSet.{SetView}
use Rattle.fp_model.specs.ClassSet.SetRefusal.{Duplicate, SuperCycle}
use Rattle.fp_load.specs.declared.fault.FileRefusal.{FileRefusal}
use Rattle.fp_load.specs.Load.{LoadRefusal, loaded_of}
use Rattle.fp_load.specs.Load.LoadRefusal.{Passed, Faulty, Unsound}
use Rattle.fp_eqs.specs.Solution.{solution}
use Rattle.fp_eqs.specs.Demand.{demand}
use Rattle.fp_system.specs.Java.{SystemRefusal, java_cells, java_equations, shown_from, system_refusal}
use Rattle.fp_system.specs.Limits.{most_places}
use Rattle.fp_system.specs.Java.SystemRefusal.{UnknownAnalysis, UnknownRoot, UnknownItem, TooManyPlaces}
use Rattle.fp_report.specs.Report.{report}
use Rattle.fp_words.specs.Words.{RunAsked}
use Rattle.fp_top.specs.declared.status.Status.{Status}
use Rattle.fp_top.specs.declared.status.Status.TheVariants as status
use Rattle.fp_top.specs.FaultTexts.{file_refusal_text}
use Rattle.fp_top.specs.Words.{asked_of}

-- a report, line by line, or a refusal with its status and what it writes to err
pub data Outcome : Type 0 where
  Report : (lines : List (List ℕ)) → Outcome
  Refuse : (status : Status) (text : List ℕ) → Outcome

-- ---- the texts of refusals

abbrev pub usage_text : List ℕ
usage_text = codes "usage: fpcf --analyses LIST --show LIST --workers N [--assume FILE] [--all] [--cycles] DIR [ROOT]...\nusage: fpcf generate --seed N --classes N --workers N\n"

-- a file at a path that is refused, and why
abbrev pub fault_line : List ℕ → FileRefusal → List ℕ
fault_line path why = codes "refused: " ++ (path ++ (codes ": " ++ (file_refusal_text why ++ codes "\n")))

-- a line for each of these
abbrev pub fault_lines : List (List ℕ × FileRefusal) → List ℕ
fault_lines faults = flat_map (λ f. fault_line f.0 f.1) faults

-- two classes of one escaped name
abbrev pub duplicate_text : List ℕ → List ℕ
duplicate_text escaped = codes "refused: duplicate " ++ (escaped ++ codes "\n")

-- a class, by its escaped name, on a cycle of superclasses
abbrev pub cycle_text : List ℕ → List ℕ
cycle_text escaped = codes "refused: cycle " ++ (escaped ++ codes "\n")

-- an analysis, a root or a shown item that isn't there
abbrev pub selection_text : List ℕ → List ℕ
selection_text item = codes "selection: " ++ (item ++ codes "\n")

-- a bound that is passed, and how much it lets
abbrev pub limit_text : LimitName → ℕ → List ℕ
limit_text name most = codes "limit: " ++ (limit_name_text name ++ (codes " " ++ (decimal most ++ codes "\n")))

abbrev pub read_text : List ℕ → List ℕ
read_text path = codes "read fault: " ++ (path ++ codes "\n")

abbrev pub write_text : List ℕ
write_text = codes "write fault\n"

abbrev pub memory_text : List ℕ
memory_text = codes "out of memory\n"

-- ---- the outcome, from the set of classes outwards

-- the report of the least solution of the selected equations, over the demanded cells
abbrev pub java_report : SetView → RunAsked → List (List ℕ)
java_report set asked =
    let cells = java_cells set.classes in
    let system = java_equations set asked.analyses asked.show in
    report set cells [] (shown_from set asked.show 0 cells) (solution system) (demand system)

-- the outcome of a sound set, by why it has no system
abbrev pub outcome_by : SetView → RunAsked → Option SystemRefusal → Outcome
outcome_by set asked (Some (UnknownAnalysis name)) = Refuse status.Selection (selection_text name)
outcome_by set asked (Some (UnknownRoot root)) = Refuse status.Selection (selection_text root)
outcome_by set asked (Some (UnknownItem item)) = Refuse status.Selection (selection_text item)
outcome_by set asked (Some TooManyPlaces) = Refuse status.Limit (limit_text Places most_places)
outcome_by set asked None = Report (java_report set asked)

abbrev pub outcome_of_sound : SetView → RunAsked → Outcome
outcome_of_sound set asked = outcome_by set asked (system_refusal set asked.analyses asked.roots asked.show)

-- the outcome of what was loaded, or of why nothing was
abbrev pub outcome_of_load : RunAsked → Result SetView LoadRefusal → Outcome
outcome_of_load asked (Ok set) = outcome_of_sound set asked
outcome_of_load asked (Err (Passed limit most)) = Refuse status.Limit (limit_text limit most)
outcome_of_load asked (Err (Faulty faults)) = Refuse status.Refused (fault_lines faults)
outcome_of_load asked (Err (Unsound (Duplicate name))) = Refuse status.Refused (duplicate_text name)
outcome_of_load asked (Err (Unsound (SuperCycle name))) = Refuse status.Refused (cycle_text name)

abbrev pub outcome_of_run : List File → Option RunAsked → Outcome
outcome_of_run files (Some asked) = outcome_of_load asked (loaded_of files asked.dir)
outcome_of_run files None = Refuse status.Usage usage_text

-- the outcome of words over told files
abbrev pub outcome : List (List ℕ) → List File → Outcome
outcome words files = outcome_of_run files (asked_of words)

abbrev pub status_of : Outcome → Status
status_of (Report lines) = status.Done
status_of (Refuse status text) = status

abbrev pub report_of : Outcome → List ℕ
report_of (Report lines) = flat_map (λ line. line) lines
report_of (Refuse status text) = []

abbrev pub text_of : Outcome → List ℕ
text_of (Report lines) = []
text_of (Refuse status text) = text

-- the status that the told files call for
abbrev pub verdict : List (List ℕ) → List File → Status
verdict words files = status_of (outcome words files)

-- the bytes of the report
abbrev pub output : List (List ℕ) → List File → List ℕ
output words files = report_of (outcome words files)

-- what a refusal writes to err
abbrev pub refusal_text : List (List ℕ) → List File → List ℕ
refusal_text words files = text_of (outcome words files)
