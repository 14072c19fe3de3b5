-- Taking texts into a table of names.
use Rattle.std.specs.Prelude.{◌≡◌, ◌<◌, ℕ, List, ◌++◌, length, Result, OnOk, IsErrOf}
use Rattle.fp_base.specs.Names.{with_names}
use Rattle.fp_base.specs.declared.names.NameFault.{NameFault}
use Rattle.fp_base.specs.declared.names.NameFault.TheVariants as fault
use Rattle.fp_model.specs.Descriptor.{LacksRoom}

-- what a call that takes texts into a table leaves of it: the table grows at its end alone, and is full only where it
-- lacks one, and would have too many names with all of them
pub record Taken {X : Type 0} (result : Result X NameFault) (old new texts : List (List ℕ)) : Type 0 where
  pub names : OnOk result (new ≡ with_names old texts)
  pub grown : (more : List (List ℕ)) × (new ≡ old ++ more)
  pub full : IsErrOf result fault.Full → LacksRoom new texts
  pub many : IsErrOf result fault.Full → 16777216 < length (with_names old texts)
