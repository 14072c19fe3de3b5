use Rattle.std.proofs.Common.{◌≡◌, map, take}
use Rattle.fp_flow.specs.Handlers.{handler_of}
use Rattle.fp_flow.proofs.control.handlers.handlers_of.Given as goal

abbrev pub invariant-loop-row : goal.invariant-loop-row
invariant-loop-row l = l.handlers.items ≡ map (handler_of l.pcs) (take l.row-index l.rows)
