-- Taking texts into a table of names.
use Rattle.std.specs.Prelude.{◌≡◌, ◌+◌, ◌<◌, ◌≤◌, List, ◌++◌, length, Result, OnOk, IsErrOf, ℕ}
use Rattle.fp_base.specs.Names.{with_names}
use Rattle.fp_base.specs.declared.names.NameFault.{NameFault}
use Rattle.fp_base.specs.declared.names.NameFault.TheVariants as fault
use Rattle.fp_model.specs.Descriptor.{LacksRoom}

-- the table is full and lacks one of the texts, no more was taken into it than there are, and with all of them it would have
-- too many names
pub record HasNoRoom (old new texts : List (List ℕ)) : Type 0 where
  pub lacks : LacksRoom new texts
  pub few : length new ≤ length old + length texts
  pub many : 16777216 < length (with_names old texts)

-- what a call that takes texts into a table leaves of it: the table grows at its end alone
pub record Interned {X : Type 0} (result : Result X NameFault) (old new texts : List (List ℕ)) : Type 0 where
  pub names : OnOk result (new ≡ with_names old texts)
  pub grown : (more : List (List ℕ)) × (new ≡ old ++ more)
  pub full : IsErrOf result fault.Full → HasNoRoom old new texts
