-- What the steps of loading say.
use Rattle.std.specs.Prelude.{◌≡◌, ℕ, List, [], Contains, Option, Some, unwrap_or, string_bytes}
use Rattle.fp_base.specs.Calls.{Call, Gained}
use Rattle.fp_base.specs.Calls.Call.{Reading}
use Rattle.fp_base.specs.Files.{File, bytes_at}
use Rattle.fp_load.specs.Load.{LoadRefusal}
use Rattle.fp_load.specs.Load.LoadRefusal.{Passed}
use Rattle.fp_load.specs.declared.fault.LoadFault.{LoadFault}
use Rattle.fp_load.specs.declared.fault.LoadFault.TheVariants as fault

-- the file at a path
abbrev pub file_at : List File → List ℕ → File
file_at files path = record { path = path; bytes = unwrap_or (bytes_at files path) [] }

-- the fault tells which limit is passed; a read fault and want of memory say nothing of it
abbrev pub TellsPassed : Option LoadRefusal → LoadFault → Type 0
TellsPassed passed (fault.Read path) = Unit {0}
TellsPassed passed (fault.Limit name most) = passed ≡ Some (Passed name most)
TellsPassed passed (fault.Refused refused) = ⊥
TellsPassed passed (fault.Set why) = ⊥
TellsPassed passed fault.Memory = Unit {0}

-- a read fault names one of these paths, whose reading failed
abbrev pub BlamesReading : List (List ℕ) → List Call → List Call → LoadFault → Type 0
BlamesReading paths before now (fault.Read path) = Contains paths (string_bytes path) × Gained before now (Reading (string_bytes path))
BlamesReading paths before now _ = Unit {0}

-- no read fault
abbrev pub IsInner : LoadFault → Type 0
IsInner (fault.Read path) = ⊥
IsInner _ = Unit {0}

-- a read fault of this path, or want of memory
abbrev pub IsReadAt : List ℕ → LoadFault → Type 0
IsReadAt path (fault.Read named) = string_bytes named ≡ path
IsReadAt path fault.Memory = Unit {0}
IsReadAt path _ = ⊥
