-- The status of the process.
use Rattle.std.specs.Prelude.{ℕ}
use Rattle.fp_top.specs.declared.status.Status.{Status}
use Rattle.fp_top.specs.declared.status.Status.TheVariants as status

abbrev pub exit_code : Status → ℕ
exit_code status.Done = 0
exit_code status.Refused = 1
exit_code status.Usage = 2
exit_code status.ReadFault = 3
exit_code status.WriteFault = 4
exit_code status.Selection = 5
exit_code status.Limit = 6
exit_code status.Memory = 7
