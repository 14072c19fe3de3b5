use Rattle.std.proofs.Common.{◌≡◌, true, ◌++◌, map, filter, take}
use Rattle.fp_flow.specs.Handlers.{is_active}
use Rattle.fp_flow.proofs.control.push_handlers.Given as goal

abbrev pub invariant-loop-handler : goal.invariant-loop-handler
invariant-loop-handler l = l.edges.items ≡ l.fn.edges.items ++ map (λ h. (l.from, h.number, true)) (filter (is_active l.pc) (take l.handler-index l.near))
