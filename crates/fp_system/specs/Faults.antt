-- What a fault tells of why there is no system.
use Rattle.std.specs.Prelude.{◌≡◌, ℕ, Bool, ◌||◌, List, Option, Some, string_bytes}
use Rattle.fp_base.specs.Names.{has_name}
use Rattle.fp_model.specs.declared.limit.LimitName.TheVariants as limit
use Rattle.fp_system.specs.declared.fault.SystemFault.{SystemFault}
use Rattle.fp_system.specs.declared.fault.SystemFault.TheVariants as fault
use Rattle.fp_system.specs.declared.words.check.Word.{Word}
use Rattle.fp_system.specs.declared.words.check.Word.TheVariants as word
use Rattle.fp_system.specs.Java.{SystemRefusal, UnknownAnalysis, UnknownRoot, UnknownItem, TooManyPlaces, is_analysis, is_kind_text}
use Rattle.fp_system.specs.Limits.{most_places}

-- the fault tells why there is no system; want of memory tells nothing
abbrev pub TellsSystemRefusal : Option SystemRefusal → SystemFault → Type 0
TellsSystemRefusal refusal (fault.Analysis name) = refusal ≡ Some (UnknownAnalysis (string_bytes name))
TellsSystemRefusal refusal (fault.Root root) = refusal ≡ Some (UnknownRoot (string_bytes root))
TellsSystemRefusal refusal (fault.Show item) = refusal ≡ Some (UnknownItem (string_bytes item))
TellsSystemRefusal refusal (fault.Limit name bound) = (refusal ≡ Some TooManyPlaces) × (name ≡ limit.Places) × (bound ≡ most_places)
TellsSystemRefusal refusal fault.Memory = Unit {0}

-- a word of a sort is known, by the roots or the items that name something
abbrev pub is_known : Word → List (List ℕ) → List ℕ → Bool
is_known word.Analysis found text = is_analysis text
is_known word.Root found text = has_name found text
is_known word.Item found text = is_kind_text text || has_name found text

-- the fault tells the first word of a sort that isn't
abbrev pub TellsWord : Word → Option (List ℕ) → SystemFault → Type 0
TellsWord word.Analysis first (fault.Analysis name) = first ≡ Some (string_bytes name)
TellsWord word.Root first (fault.Root root) = first ≡ Some (string_bytes root)
TellsWord word.Item first (fault.Show item) = first ≡ Some (string_bytes item)
TellsWord sort first fault.Memory = Unit {0}
TellsWord sort first _ = ⊥

-- the fault tells that there are too many places
abbrev pub TellsLimit : Option SystemRefusal → SystemFault → Type 0
TellsLimit refusal (fault.Limit name bound) = (refusal ≡ Some TooManyPlaces) × (name ≡ limit.Places) × (bound ≡ most_places)
TellsLimit refusal fault.Memory = Unit {0}
TellsLimit refusal _ = ⊥
