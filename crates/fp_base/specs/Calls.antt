-- Calls on a directory, and the cause of an answer that is not Ok.
use Rattle.std.specs.Prelude.{◌≡◌, ℕ, List, ◌++◌, Contains, Result, IsErrOf, string_bytes}
use Rattle.fp_base.specs.declared.outside.call.CallKind.{CallKind}
use Rattle.fp_base.specs.declared.outside.call.CallKind.TheVariants as kind
use Rattle.fp_base.specs.declared.outside.call.DirCall.{DirCall}
use Rattle.fp_base.specs.declared.outside.dir.DirFault.{DirFault}
use Rattle.fp_base.specs.declared.outside.dir.DirFault.TheVariants.{Failed}

-- a call on a directory, with its path
pub data Call : Type 0 where
  Listing : (path : List ℕ) → Call
  Reading : (path : List ℕ) → Call

-- the call of a kind at a path
abbrev pub call_at : CallKind → List ℕ → Call
call_at kind.Listing path = Listing path
call_at kind.Reading path = Reading path

-- the call that the code keeps
abbrev pub call_of : DirCall → Call
call_of kept = call_at kept.kind (string_bytes kept.path)

-- calls were added at the end
abbrev pub Grows : List Call → List Call → Type 0
Grows before now = (more : List Call) × (now ≡ before ++ more)

-- calls were added at the end, and this call is among them
abbrev pub Gained : List Call → List Call → Call → Type 0
Gained before now call = (more : List Call) × (now ≡ before ++ more) × Contains more call

-- the failed calls only grow, and at Failed they have gained this call
pub record HasDirCause {T : Type 0} (before now : List Call) (call : Call) (result : Result T DirFault) : Type 0 where
  pub grows : Grows before now
  pub failed : IsErrOf result Failed → Gained before now call
