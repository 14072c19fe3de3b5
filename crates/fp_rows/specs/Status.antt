-- The names of the ways that a run ends.
use Rattle.std.specs.Prelude.{ℕ, List, codes}
use Rattle.fp_top.specs.declared.status.Status.{Status}
use Rattle.fp_top.specs.declared.status.Status.TheVariants as status

abbrev pub status_name : Status → List ℕ
status_name status.Done = codes "done"
status_name status.Refused = codes "refused"
status_name status.Usage = codes "usage"
status_name status.ReadFault = codes "read fault"
status_name status.WriteFault = codes "write fault"
status_name status.Selection = codes "selection"
status_name status.Limit = codes "limit"
status_name status.Memory = codes "memory"
