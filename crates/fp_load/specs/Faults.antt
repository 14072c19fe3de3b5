-- What a fault of loading says of the told files.
use Rattle.std.specs.Prelude.{◌≡◌, ℕ, List, map, Result, Err, string_bytes, String}
use Rattle.std.specs.declared.alloc.Global.{Global}
use Rattle.fp_model.specs.declared.class_set.fault.SetFault.TheVariants as set_fault
use Rattle.fp_model.specs.declared.class_set.fault.SetFault.{SetFault}
use Rattle.fp_model.specs.ClassSet.{SetView, TellsRefusal, refusal_of}
use Rattle.fp_model.specs.ClassSet.SetRefusal.{Duplicate, SuperCycle}
use Rattle.fp_load.specs.Load.{LoadRefusal, loaded_of_set}
use Rattle.fp_load.specs.Load.LoadRefusal.{Passed, Faulty, Unsound}
use Rattle.fp_load.specs.declared.fault.FileRefusal.{FileRefusal}
use Rattle.fp_load.specs.declared.fault.LoadFault.{LoadFault}
use Rattle.fp_load.specs.declared.fault.LoadFault.TheVariants as fault
use Rattle.fp_load.specs.Steps.{IsInner}

-- why a file is refused, by its path
abbrev pub refusal_told : String Global × FileRefusal → List ℕ × FileRefusal
refusal_told (path, why) = (string_bytes path, why)

-- a read fault and want of memory say nothing of the told files
abbrev pub Tells : Result SetView LoadRefusal → LoadFault → Type 0
Tells loaded (fault.Read path) = Unit {0}
Tells loaded (fault.Limit name most) = loaded ≡ Err (Passed name most)
Tells loaded (fault.Refused refused) = loaded ≡ Err (Faulty (map refusal_told refused))
Tells loaded (fault.Set (set_fault.Duplicate name)) = loaded ≡ Err (Unsound (Duplicate (string_bytes name)))
Tells loaded (fault.Set (set_fault.SuperCycle name)) = loaded ≡ Err (Unsound (SuperCycle (string_bytes name)))
Tells loaded (fault.Set set_fault.Memory) = ⊥
Tells loaded fault.Memory = Unit {0}

-- that classes are no sound set, as a fault of loading
pub record IsUnsound (why : SetFault) (told : LoadFault) : Type 0 where
  pub tells : (set : SetView) → TellsRefusal (refusal_of set) why → Tells (loaded_of_set set (refusal_of set)) told
  pub inner : IsInner told
