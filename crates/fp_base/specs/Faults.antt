-- What a put leaves of a sink, and the cause of an answer that is not Ok.
use Rattle.std.specs.Prelude.{◌≡◌, ℕ, ◌≤◌, List, ◌++◌, Option, Result, IsErrOf}
use Rattle.std.specs.Io.KnownBytes.{append_known}
use Rattle.fp_base.specs.Counters.{Rose}
use Rattle.fp_base.specs.declared.outside.sink.SinkFault.{SinkFault}
use Rattle.fp_base.specs.declared.outside.sink.SinkFault.TheVariants.{Failed}

-- the bytes that a sink tells grew by a first part of these
pub record AppendsPart (old new : Option (List ℕ)) (whole : List ℕ) : Type 0 where
  pub part : List ℕ
  pub rest : List ℕ
  pub split : whole ≡ part ++ rest
  pub appended : new ≡ append_known old part

-- the count of faults never falls, and at Failed it rose
pub record HasSinkCause {T : Type 0} (before now : ℕ) (result : Result T SinkFault) : Type 0 where
  pub later : before ≤ now
  pub failed : IsErrOf result Failed → Rose before now
