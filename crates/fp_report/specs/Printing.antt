-- The cause of a report that was not put whole.
use Rattle.std.specs.Prelude.{ℕ, ◌≤◌, Result, IsErrOf}
use Rattle.fp_base.specs.Counters.{Rose}
use Rattle.fp_report.specs.declared.printing.PrintFault.{PrintFault}
use Rattle.fp_report.specs.declared.printing.PrintFault.TheVariants.{Write}

-- the count of faults never falls, and at Write it rose
pub record HasPrintCause {T : Type 0} (before now : ℕ) (result : Result T PrintFault) : Type 0 where
  pub later : before ≤ now
  pub failed : IsErrOf result Write → Rose before now
