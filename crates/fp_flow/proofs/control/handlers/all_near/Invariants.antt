use Rattle.std.proofs.Common.{◌≡◌, filter, take}
use Rattle.fp_flow.specs.Handlers.{is_near}
use Rattle.fp_flow.proofs.control.handlers.all_near.Given as goal

abbrev pub invariant-loop-handler : goal.invariant-loop-handler
invariant-loop-handler l = l.near.items ≡ filter (is_near l.first l.last) (take l.handler-index l.handlers)
