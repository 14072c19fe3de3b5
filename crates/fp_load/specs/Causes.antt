-- The causes of faults of the outside.
use Rattle.std.specs.Prelude.{◌≡◌, ◌⊎◌, ℕ, Bool, true, List, Contains, string_bytes}
use Rattle.fp_base.specs.Calls.{Call, Gained, Grows}
use Rattle.fp_base.specs.Calls.Call.{Listing, Reading}
use Rattle.fp_base.specs.Files.{File, is_class_file}
use Rattle.fp_load.specs.declared.fault.LoadFault.{LoadFault}
use Rattle.fp_load.specs.declared.fault.LoadFault.TheVariants as fault

-- the path that a read fault may name: the directory, whose listing failed, or a listed path below it, whose reading failed
abbrev pub IsBlamed : List ℕ → List (List ℕ) → List Call → List Call → List ℕ → Type 0
IsBlamed dir listed before now path =
    ((path ≡ dir) × Gained before now (Listing dir))
    ⊎ (Contains listed path × (is_class_file dir path ≡ true) × Gained before now (Reading path))

-- only a read fault needs a cause outside
abbrev pub Blames : List ℕ → List (List ℕ) → List Call → List Call → LoadFault → Type 0
Blames dir listed before now (fault.Read path) = IsBlamed dir listed before now (string_bytes path)
Blames dir listed before now _ = Unit {0}

-- what a step keeps of a directory: whether it tells its files, and these; the failed calls only grow
pub record Keeps (tells : Bool) (files : List File) (failed : List Call) (tells' : Bool) (files' : List File) (failed' : List Call) : Type 0 where
  pub telling : tells' ≡ tells
  pub told : files' ≡ files
  pub grows : Grows failed failed'
